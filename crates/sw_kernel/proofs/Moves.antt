-- What a step does to the items: it moves them, brings its own, and takes out those at a place.
use Rattle.std.proofs.Common.{◌≡◌, ℕ, suc, zero, ◌+◌, ◌-◌, ◌<◌, ◌≤◌, ℤ, Bool, true, false, nat_lt, List, [], ◌∷◌, ◌++◌, length, reverse, remove, Option, None, Some, IsPermutation, refl, sym, ap, ap₂, ◌∙◌, arith, subst, inl, inr}
use Rattle.std.specs.List.{AllByRecursion}
use Rattle.std.proofs.lemmas.Bool.{cases_Bool, ltb-true, ltb-false}
use Rattle.std.proofs.lemmas.List.{append_assoc, length-append}
use Rattle.std.proofs.lemmas.List.Sorted.{IsPermutation-refl, IsPermutation-sym, IsPermutation-trans, IsPermutation-reverse, IsPermutation-append_comm, IsPermutation-to_front, IsPermutation-append_left, IsPermutation-append_right, IsPermutation-cons}
use Rattle.sw_query.specs.declared.bound.Bound.{Bound}
use Rattle.sw_query.specs.Bounds.{bound_below, same_bound}
use Rattle.sw_kernel.specs.Partition.{left_part, right_part, goes_left}
use Rattle.sw_kernel.specs.Arrangement.{Arrangement, last, piece, joined, crack, first_to_end, last_to_front, take_out, each_piece, ripple_insert, ripple_remove}
use Rattle.sw_kernel.specs.Replay.{crack_at, load}
use Rattle.sw_kernel.proofs.Parts.{Passes, Fails, left-yes, right-yes, left-no, right-no, left-both, right-both}

-- one permutation after the other, up to equal lists
pub then : {A : Type 0} {xs ys zs : List A} → IsPermutation xs ys → IsPermutation ys zs → IsPermutation xs zs
then {A} {xs} {ys} {zs} p q = IsPermutation-trans xs ys zs p q

-- a permutation into a list is one into any equal list
pub to-equal : {A : Type 0} {xs ys zs : List A} → ys ≡ zs → IsPermutation xs ys → IsPermutation xs zs
to-equal {A} {xs} e p = subst (IsPermutation xs) e p

-- a permutation from a list is one from any equal list
pub from-equal : {A : Type 0} {xs ys zs : List A} → xs ≡ ys → IsPermutation ys zs → IsPermutation xs zs
from-equal {A} {xs} {ys} {zs} e p = subst (λ (l : List A). IsPermutation l zs) (sym e) p

-- what the two parts are made of
pub record Parted {A : Type 0} (p : A → Bool) (xs : List A) : Type 0 where
  pub moved : IsPermutation xs (left_part p xs ++ right_part p xs)
  pub passes : Passes p (left_part p xs)
  pub fails : Fails p (right_part p xs)

all-append : {A : Type 0} (P : A → Type 0) (xs ys : List A) → AllByRecursion P xs → AllByRecursion P ys → AllByRecursion P (xs ++ ys)
all-append P [] ys h k = k
all-append P (x ∷ xs) ys h k = (h.0, all-append P xs ys h.1 k)

parted-none : {A : Type 0} (p : A → Bool) → Parted p []
unfolding left_part right_part
parted-none p = record { moved = IsPermutation-refl []; passes = tt; fails = tt }

parted-yes : {A : Type 0} (p : A → Bool) (x : A) (m : List A) → p x ≡ true → Parted p m → Parted p (x ∷ m)
parted-yes {A} p x m e h =
    let l : left_part p (x ∷ m) ≡ x ∷ left_part p m = left-yes p x m e in
    let r : right_part p (x ∷ m) ≡ right_part p m = right-yes p x m e in
    record {
      moved = to-equal (sym (ap₂ (λ (u v : List A). u ++ v) l r)) (IsPermutation-cons x m (left_part p m ++ right_part p m) h.moved);
      passes = subst (Passes p) (sym l) (e, h.passes);
      fails = subst (Fails p) (sym r) h.fails;
    }

parted-no : {A : Type 0} (p : A → Bool) (y : A) (m : List A) → p y ≡ false → Parted p m → Parted p (m ++ y ∷ [])
parted-no {A} p y m e h =
    let l : left_part p (m ++ y ∷ []) ≡ left_part p m = left-no p y m e in
    let r : right_part p (m ++ y ∷ []) ≡ right_part p m ++ y ∷ [] = right-no p y m e in
    let grouped : (left_part p m ++ right_part p m) ++ y ∷ [] ≡ left_part p m ++ (right_part p m ++ y ∷ []) = append_assoc (left_part p m) (right_part p m) (y ∷ []) in
    record {
      moved = to-equal (grouped ∙ sym (ap₂ (λ (u v : List A). u ++ v) l r)) (IsPermutation-append_left (y ∷ []) m (left_part p m ++ right_part p m) h.moved);
      passes = subst (Passes p) (sym l) h.passes;
      fails = subst (Fails p) (sym r) (all-append (λ x. p x ≡ false) (right_part p m) (y ∷ []) h.fails (e, tt));
    }

parted-both : {A : Type 0} (p : A → Bool) (x y : A) (m : List A) → p x ≡ false → p y ≡ true → Parted p m → Parted p (x ∷ (m ++ y ∷ []))
parted-both {A} p x y m ex ey h =
    let l : left_part p (x ∷ (m ++ y ∷ [])) ≡ y ∷ left_part p m = left-both p x y m ex ey in
    let r : right_part p (x ∷ (m ++ y ∷ [])) ≡ right_part p m ++ x ∷ [] = right-both p x y m ex ey in
    let parts = left_part p m ++ right_part p m in
    let grouped : y ∷ (parts ++ x ∷ []) ≡ (y ∷ left_part p m) ++ (right_part p m ++ x ∷ []) = ap (λ (t : List A). y ∷ t) (append_assoc (left_part p m) (right_part p m) (x ∷ [])) in
    let one : IsPermutation (x ∷ (m ++ y ∷ [])) ((m ++ y ∷ []) ++ x ∷ []) = IsPermutation-append_comm (x ∷ []) (m ++ y ∷ []) in
    let two : IsPermutation ((m ++ y ∷ []) ++ x ∷ []) (y ∷ (m ++ x ∷ [])) = IsPermutation-append_left (x ∷ []) (m ++ y ∷ []) (y ∷ m) (IsPermutation-to_front m y) in
    let three : IsPermutation (y ∷ (m ++ x ∷ [])) (y ∷ (parts ++ x ∷ [])) = IsPermutation-cons y (m ++ x ∷ []) (parts ++ x ∷ []) (IsPermutation-append_left (x ∷ []) m parts h.moved) in
    record {
      moved = to-equal (grouped ∙ sym (ap₂ (λ (u v : List A). u ++ v) l r)) (then one (then two three));
      passes = subst (Passes p) (sym l) (ey, h.passes);
      fails = subst (Fails p) (sym r) (all-append (λ z. p z ≡ false) (right_part p m) (x ∷ []) h.fails (ex, tt));
    }

-- a list that is not empty has a last item
ends : {A : Type 0} (x : A) (m : List A) → (init : List A) × (y : A) × (x ∷ m ≡ init ++ y ∷ [])
ends x [] = ([], x, refl)
ends x (z ∷ m) = let r = ends z m in (x ∷ r.0, r.1, ap (λ l. x ∷ l) r.2)

parted-by : {A : Type 0} (p : A → Bool) (n : ℕ) (xs : List A) → length xs ≤ n → Parted p xs
parted-by p n [] le = parted-none p
parted-by p zero (x ∷ m) le = absurd (omega arith)
parted-by p (suc n) (x ∷ []) le = elim (cases_Bool (p x)) [
  | inl yields ↦ parted-yes p x [] yields (parted-none p)
  | inr stays ↦ parted-no p x [] stays (parted-none p)
]
parted-by {A} p (suc n) (x ∷ z ∷ m) le = elim (cases_Bool (p x)) [
  | inl yields ↦ parted-yes p x (z ∷ m) yields (parted-by p n (z ∷ m) (omega arith))
  | inr stays ↦
      let r = ends z m in
      let long : length (z ∷ m) ≡ length r.0 + 1 = ap length r.2 ∙ length-append r.0 (r.1 ∷ []) in
      elim (cases_Bool (p r.1)) [
        | inl yields ↦ subst (λ (l : List A). Parted p (x ∷ l)) (sym r.2) (parted-both p x r.1 r.0 stays yields (parted-by p n r.0 (omega arith)))
        | inr stays' ↦ subst (λ (l : List A). Parted p (x ∷ l)) (sym r.2) (parted-no p r.1 (x ∷ r.0) stays' (parted-by p n (x ∷ r.0) (omega arith)))
      ]
]

-- the two parts of a list have its items, those that pass in the left one and the others in the right one
pub parted : {A : Type 0} (p : A → Bool) (xs : List A) → Parted p xs
parted p xs = parted-by p (length xs) xs (omega arith)

-- ---- the moves of an arrangement
pub crack-moves : {A : Type 0} (value : A → ℤ) (b : Bound) (a : Arrangement A) → IsPermutation (joined a) (joined (crack value b a))
crack-moves value b (last xs) = (parted (goes_left value b) xs).moved
crack-moves {A} value b (piece xs c rest) = elim (cases_Bool (same_bound b c)) [
  | inl here ↦ rw here (IsPermutation-refl (xs ++ joined rest))
  | inr other ↦ elim (cases_Bool (bound_below b c)) [
    | inl first ↦
        let l : List A = left_part (goes_left value b) xs in
        let r : List A = right_part (goes_left value b) xs in
        rw (other, first) (to-equal (append_assoc l r (joined rest)) (IsPermutation-append_left (joined rest) xs (l ++ r) (parted (goes_left value b) xs).moved))
    | inr past ↦ rw (other, past) (IsPermutation-append_right xs (joined rest) (joined (crack value b rest)) (crack-moves value b rest))
  ]
]

-- a crack at a bound that may be missing only moves items
pub crack_at-moves : {A : Type 0} (value : A → ℤ) (b : Option Bound) (a : Arrangement A) → IsPermutation (joined a) (joined (crack_at value b a))
crack_at-moves value None a = IsPermutation-refl (joined a)
crack_at-moves value (Some b) a = crack-moves value b a

-- the first item going to the end only moves items
pub first-moves : {A : Type 0} (xs : List A) → IsPermutation xs (first_to_end xs)
first-moves [] = IsPermutation-refl []
first-moves (x ∷ xs) = IsPermutation-sym (xs ++ x ∷ []) (x ∷ xs) (IsPermutation-to_front xs x)

-- the last item coming to the front only moves items
pub last-moves : {A : Type 0} (xs : List A) → IsPermutation xs (last_to_front xs)
last-moves xs = then (IsPermutation-reverse xs) (then (first-moves (reverse xs)) (IsPermutation-reverse (first_to_end (reverse xs))))

-- what only moves items within a list only moves items when it is done to each piece
pub each-moves : {A : Type 0} (f : List A → List A) → ((xs : List A) → IsPermutation xs (f xs)) → (a : Arrangement A) → IsPermutation (joined a) (joined (each_piece f a))
each-moves f h (last xs) = h xs
each-moves f h (piece xs b rest) = then (IsPermutation-append_left (joined rest) xs (f xs) (h xs)) (IsPermutation-append_right (f xs) (joined rest) (joined (each_piece f rest)) (each-moves f h rest))

-- the insertion's ripple leaves the items and the new one, in some order
pub insert-moves : {A : Type 0} (value : A → ℤ) (x : A) (a : Arrangement A) → IsPermutation (joined a ++ x ∷ []) (joined (ripple_insert value x a))
insert-moves value x (last xs) = IsPermutation-refl (xs ++ x ∷ [])
insert-moves value x (piece xs b rest) = elim (cases_Bool (goes_left value b x)) [
  | inl here ↦
      let one : IsPermutation ((xs ++ joined rest) ++ x ∷ []) (xs ++ x ∷ joined rest) = from-equal (append_assoc xs (joined rest) (x ∷ [])) (IsPermutation-append_right xs (joined rest ++ x ∷ []) (x ∷ joined rest) (IsPermutation-to_front (joined rest) x)) in
      let two : IsPermutation (xs ++ x ∷ joined rest) ((xs ++ x ∷ []) ++ joined rest) = to-equal (sym (append_assoc xs (x ∷ []) (joined rest))) (IsPermutation-refl (xs ++ x ∷ joined rest)) in
      rw here (then one (then two (IsPermutation-append_right (xs ++ x ∷ []) (joined rest) (joined (each_piece first_to_end rest)) (each-moves first_to_end first-moves rest))))
  | inr past ↦ rw past (from-equal (append_assoc xs (joined rest) (x ∷ [])) (IsPermutation-append_right xs (joined rest ++ x ∷ []) (joined (ripple_insert value x rest)) (insert-moves value x rest)))
]

remove-front : {A : Type 0} (xs ys : List A) (n : ℕ) → n < length xs → remove (xs ++ ys) n ≡ remove xs n ++ ys
remove-front [] ys n lt = absurd (omega (arith, lt))
remove-front (x ∷ xs) ys zero lt = refl
remove-front (x ∷ xs) ys (suc n) lt = ap (λ l. x ∷ l) (remove-front xs ys n (omega (arith, lt)))

remove-back : {A : Type 0} (xs ys : List A) (n : ℕ) → length xs ≤ n → remove (xs ++ ys) n ≡ xs ++ remove ys (n - length xs)
remove-back [] ys n le = ap (remove ys) (omega arith)
remove-back (x ∷ xs) ys zero le = absurd (omega arith)
remove-back (x ∷ xs) ys (suc n) le =
    let e : n - length xs ≡ suc n - suc (length xs) = omega arith in
    ap (λ l. x ∷ l) (remove-back xs ys n (omega arith) ∙ ap (λ k. xs ++ remove ys k) e)

-- taking out the item at a place leaves the others, in some order
pub take_out-moves : {A : Type 0} (xs : List A) (n : ℕ) → IsPermutation (remove xs n) (take_out xs n)
take_out-moves [] zero = IsPermutation-refl []
take_out-moves [] (suc n) = IsPermutation-refl []
take_out-moves (x ∷ xs) zero = last-moves xs
take_out-moves (x ∷ xs) (suc n) = IsPermutation-cons x (remove xs n) (take_out xs n) (take_out-moves xs n)

-- the removal's ripple leaves the items without the one at the place, in some order
pub remove-moves : {A : Type 0} (n : ℕ) (a : Arrangement A) → IsPermutation (remove (joined a) n) (joined (ripple_remove n a))
remove-moves n (last xs) = take_out-moves xs n
remove-moves n (piece xs b rest) = elim (cases_Bool (nat_lt n (length xs))) [
  | inl here ↦
      rw here (from-equal (remove-front xs (joined rest) n (ltb-true n (length xs) here))
      (then (IsPermutation-append_left (joined rest) (remove xs n) (take_out xs n) (take_out-moves xs n)) (IsPermutation-append_right (take_out xs n) (joined rest) (joined (each_piece last_to_front rest)) (each-moves last_to_front last-moves rest))))
  | inr past ↦
      rw past (from-equal (remove-back xs (joined rest) n (ltb-false n (length xs) past)) (IsPermutation-append_right xs (remove (joined rest) (n - length xs)) (joined (ripple_remove (n - length xs) rest)) (remove-moves (n - length xs) rest)))
]

-- a load puts its items behind all that are there
pub load-joined : {A : Type 0} (ys : List A) (a : Arrangement A) → joined (load ys a) ≡ joined a ++ ys
load-joined ys (last xs) = refl
load-joined ys (piece xs b rest) = ap (λ l. xs ++ l) (load-joined ys rest) ∙ sym (append_assoc xs (joined rest) ys)
