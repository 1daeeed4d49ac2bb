-- After a tape each mark parts all items.
use Rattle.std.proofs.Common.{◌≡◌, ℕ, suc, zero, ◌+◌, ◌-◌, ℤ, true, false, nat_lt, List, [], ◌∷◌, ◌++◌, length, take, drop, remove, All, Option, None, Some, IsPermutation, refl, sym, ap, ◌∙◌, arith, subst, inl, inr}
use Rattle.std.specs.List.{AllByRecursion}
use Rattle.std.proofs.lemmas.Bool.{cases_Bool}
use Rattle.std.proofs.lemmas.List.{append_assoc, length-append, take_at, drop_at}
use Rattle.std.proofs.lemmas.List.Elements.{All-from_recursion}
use Rattle.std.proofs.lemmas.List.Sorted.{IsPermutation-sym}
use Rattle.sw_query.specs.declared.bound.Bound.{Bound}
use Rattle.sw_query.specs.Bounds.{bound_below, same_bound}
use Rattle.sw_kernel.specs.declared.mark.Mark.{Mark}
use Rattle.sw_kernel.specs.Partition.{left_part, right_part, goes_left}
use Rattle.sw_kernel.specs.Arrangement.{Arrangement, last, piece, joined, crack, first_to_end, last_to_front, take_out, each_piece, ripple_insert, ripple_remove, bounds}
use Rattle.sw_kernel.specs.Replay.{Step, loaded, inserted, removed, ranged, crack_at, step, replay_from, replay}
use Rattle.sw_kernel.specs.Flat.{marks_from}
use Rattle.sw_kernel.specs.Tapes.{MayFollow, AllFollow, IsTape, IsBelowAll, IsRising, IsSound, count_after}
use Rattle.sw_kernel.proofs.Orders.{left-below, right-below}
use Rattle.sw_kernel.proofs.Rising.{replay_from-rises}
use Rattle.sw_kernel.proofs.Moves.{parted, crack-moves, first-moves, last-moves, each-moves, insert-moves, take_out-moves, remove-moves}
use Rattle.sw_kernel.proofs.Members.{all-moved, all-weaker, all-append, all-back}

-- all items are left of the bound; none is
abbrev pub AllLeft : {A : Type 0} → (A → ℤ) → Bound → List A → Type 0
AllLeft value b xs = AllByRecursion (λ x. goes_left value b x ≡ true) xs

-- no item is left of the bound
abbrev pub NoneLeft : {A : Type 0} → (A → ℤ) → Bound → List A → Type 0
NoneLeft value b xs = AllByRecursion (λ x. goes_left value b x ≡ false) xs

-- each piece is left of its bound, and what comes after is not
abbrev pub Ordered : {A : Type 0} → (A → ℤ) → Arrangement A → Type 0
Ordered value (last xs) = Unit {0}
Ordered value (piece xs b rest) = AllLeft value b xs × NoneLeft value b (joined rest) × Ordered value rest

left-moved : {A : Type 0} (value : A → ℤ) (b : Bound) (xs ys : List A) → IsPermutation xs ys → AllLeft value b xs → AllLeft value b ys
left-moved value b xs ys p h = all-moved (λ x. goes_left value b x ≡ true) ys xs (IsPermutation-sym xs ys p) h

right-moved : {A : Type 0} (value : A → ℤ) (b : Bound) (xs ys : List A) → IsPermutation xs ys → NoneLeft value b xs → NoneLeft value b ys
right-moved value b xs ys p h = all-moved (λ x. goes_left value b x ≡ false) ys xs (IsPermutation-sym xs ys p) h

-- a crack keeps each piece left of its bound, and what comes after not left of it
pub crack-ordered : {A : Type 0} (value : A → ℤ) (b : Bound) (a : Arrangement A) → Ordered value a → Ordered value (crack value b a)
crack-ordered value b (last xs) o = let h = parted (goes_left value b) xs in (h.passes, h.fails, tt)
crack-ordered {A} value b (piece xs c rest) o = elim (cases_Bool (same_bound b c)) [
  | inl here ↦ rw here o
  | inr other ↦ elim (cases_Bool (bound_below b c)) [
    | inl first ↦
        let h = parted (goes_left value b) xs in
        let l : List A = left_part (goes_left value b) xs in
        let r : List A = right_part (goes_left value b) xs in
        let moved : AllLeft value c (l ++ r) = left-moved value c xs (l ++ r) h.moved o.0 in
        let beyond : NoneLeft value b (joined rest) = all-weaker (λ (x : A). goes_left value c x ≡ false) (λ (x : A). goes_left value b x ≡ false) (λ x e. right-below b c (value x) first e) (joined rest) o.1 in
        rw (other, first) (h.passes, all-append (λ (x : A). goes_left value b x ≡ false) r (joined rest) h.fails beyond, (all-back (λ (x : A). goes_left value c x ≡ true) l r moved, o.1, o.2))
    | inr past ↦ rw (other, past) (o.0, right-moved value c (joined rest) (joined (crack value b rest)) (crack-moves value b rest) o.1, crack-ordered value b rest o.2)
  ]
]

-- a crack at a bound that may be missing keeps the pieces on their sides of the bounds
pub crack_at-ordered : {A : Type 0} (value : A → ℤ) (b : Option Bound) (a : Arrangement A) → Ordered value a → Ordered value (crack_at value b a)
crack_at-ordered value None a o = o
crack_at-ordered value (Some b) a o = crack-ordered value b a o

each-ordered : {A : Type 0} (value : A → ℤ) (f : List A → List A) → ((xs : List A) → IsPermutation xs (f xs)) → (a : Arrangement A) → Ordered value a → Ordered value (each_piece f a)
each-ordered value f h (last xs) o = tt
each-ordered value f h (piece xs b rest) o =
    (left-moved value b xs (f xs) (h xs) o.0, right-moved value b (joined rest) (joined (each_piece f rest)) (each-moves f h rest) o.1, each-ordered value f h rest o.2)

-- an insertion keeps the pieces on their sides of the bounds
pub insert-ordered : {A : Type 0} (value : A → ℤ) (x : A) (a : Arrangement A) → Ordered value a → Ordered value (ripple_insert value x a)
insert-ordered value x (last xs) o = tt
insert-ordered {A} value x (piece xs b rest) o = elim (cases_Bool (goes_left value b x)) [
  | inl here ↦
      rw here (
        all-append (λ (y : A). goes_left value b y ≡ true) xs (x ∷ []) o.0 (here, tt),
        right-moved value b (joined rest) (joined (each_piece first_to_end rest)) (each-moves first_to_end first-moves rest) o.1,
        each-ordered value first_to_end first-moves rest o.2,
      )
  | inr past ↦
      rw past (
        o.0,
        right-moved value b (joined rest ++ x ∷ []) (joined (ripple_insert value x rest)) (insert-moves value x rest) (all-append (λ (y : A). goes_left value b y ≡ false) (joined rest) (x ∷ []) o.1 (past, tt)),
        insert-ordered value x rest o.2,
      )
]

all-remove : {A : Type 0} (P : A → Type 0) (xs : List A) (n : ℕ) → AllByRecursion P xs → AllByRecursion P (remove xs n)
all-remove P [] zero h = tt
all-remove P [] (suc n) h = tt
all-remove P (x ∷ xs) zero h = h.1
all-remove P (x ∷ xs) (suc n) h = (h.0, all-remove P xs n h.1)

-- a removal keeps the pieces on their sides of the bounds
pub remove-ordered : {A : Type 0} (value : A → ℤ) (n : ℕ) (a : Arrangement A) → Ordered value a → Ordered value (ripple_remove n a)
remove-ordered value n (last xs) o = tt
remove-ordered {A} value n (piece xs b rest) o = elim (cases_Bool (nat_lt n (length xs))) [
  | inl here ↦
      rw here (
        left-moved value b (remove xs n) (take_out xs n) (take_out-moves xs n) (all-remove (λ (y : A). goes_left value b y ≡ true) xs n o.0),
        right-moved value b (joined rest) (joined (each_piece last_to_front rest)) (each-moves last_to_front last-moves rest) o.1,
        each-ordered value last_to_front last-moves rest o.2,
      )
  | inr past ↦
      let k = n - length xs in
      rw past (o.0, right-moved value b (remove (joined rest) k) (joined (ripple_remove k rest)) (remove-moves k rest) (all-remove (λ (y : A). goes_left value b y ≡ false) (joined rest) k o.1), remove-ordered value k rest o.2)
]

-- every step but a load keeps the order
pub step-ordered : {A : Type 0} (value : A → ℤ) (n : ℕ) (e : Step A) (a : Arrangement A) → MayFollow n e → Ordered value a → Ordered value (step value e a)
step-ordered value n (loaded ys) a f o = absurd f
step-ordered value n (inserted x) a f o = insert-ordered value x a o
step-ordered value n (removed k) a f o = remove-ordered value k a o
step-ordered value n (ranged l u) a f o = crack_at-ordered value u (crack_at value l a) (crack_at-ordered value l a o)

-- steps that may follow keep the pieces on their sides of the bounds
pub replay_from-ordered : {A : Type 0} (value : A → ℤ) (n : ℕ) (es : List (Step A)) (a : Arrangement A) → AllFollow n es → Ordered value a → Ordered value (replay_from value a es)
replay_from-ordered value n [] a f o = o
replay_from-ordered value n (e ∷ es) a f o = replay_from-ordered value (count_after n e) es (step value e a) f.1 (step-ordered value n e a f.0 o)

-- after a tape each piece is left of its bound, and what comes after is not
pub replay-ordered : {A : Type 0} (value : A → ℤ) (es : List (Step A)) → IsTape es → Ordered value (replay value es)
replay-ordered value [] t = absurd t
replay-ordered value (loaded xs ∷ es) t = replay_from-ordered value (length xs) es (last xs) t tt
replay-ordered value (inserted x ∷ es) t = absurd t
replay-ordered value (removed n ∷ es) t = absurd t
replay-ordered value (ranged l u ∷ es) t = absurd t

-- ---- from pieces to marks
-- all items are left of each bound
abbrev pub LeftOfAll : {A : Type 0} → (A → ℤ) → List A → List Bound → Type 0
LeftOfAll value xs bs = AllByRecursion (λ b. AllLeft value b xs) bs

left-of_more : {A : Type 0} (value : A → ℤ) (ps xs : List A) (b : Bound) (bs : List Bound) → AllLeft value b xs → IsBelowAll b bs → LeftOfAll value ps bs → LeftOfAll value (ps ++ xs) bs
left-of_more value ps xs b [] h al o = tt
left-of_more {A} value ps xs b (c ∷ cs) h al o =
    let further : AllLeft value c xs = all-weaker (λ (x : A). goes_left value b x ≡ true) (λ (x : A). goes_left value c x ≡ true) (λ x e. left-below b c (value x) al.0 e) xs h in
    (all-append (λ (x : A). goes_left value c x ≡ true) ps xs o.0 further, left-of_more value ps xs b cs h al.1 o.1)

-- behind items left of all bounds, each mark of ordered pieces with rising bounds parts all items
pub marks-sound : {A : Type 0} (value : A → ℤ) (ps : List A) (i : ℕ) (a : Arrangement A) → length ps ≡ i → LeftOfAll value ps (bounds a) → IsRising (bounds a) → Ordered value a →
    AllByRecursion (λ (m : Mark). IsSound value (ps ++ joined a) m) (marks_from i a)
marks-sound value ps i (last xs) long left r o = tt
marks-sound {A} value ps i (piece xs b rest) long left r o =
    let j = i + length xs in
    let m : Mark = record { bound = b; at = j } in
    let all = ps ++ (xs ++ joined rest) in
    let grouped : (ps ++ xs) ++ joined rest ≡ all = append_assoc ps xs (joined rest) in
    let at : length (ps ++ xs) ≡ j = length-append ps xs ∙ omega (arith, long) in
    let front : take j all ≡ ps ++ xs = ap (take j) (sym grouped) ∙ take_at (ps ++ xs) (joined rest) j at in
    let back : drop j all ≡ joined rest = ap (drop j) (sym grouped) ∙ drop_at (ps ++ xs) (joined rest) j at in
    let P : A → Type 0 = λ x. goes_left value b x ≡ true in
    let Q : A → Type 0 = λ x. goes_left value b x ≡ false in
    let before : AllByRecursion P (take j all) = subst (AllByRecursion P) (sym front) (all-append P ps xs left.0 o.0) in
    let behind : AllByRecursion Q (drop j all) = subst (AllByRecursion Q) (sym back) o.1 in
    let more = marks-sound value (ps ++ xs) j rest at (left-of_more value ps xs b (bounds rest) o.0 r.0 left.1) r.1 o.2 in (
      record { before = All-from_recursion P (take j all) before; behind = All-from_recursion Q (drop j all) behind },
      subst (λ (l : List A). AllByRecursion (λ (n : Mark). IsSound value l n) (marks_from j rest)) grouped more,
    )

left-none : {A : Type 0} (value : A → ℤ) (bs : List Bound) → LeftOfAll value [] bs
left-none value [] = tt
left-none value (b ∷ bs) = (tt, left-none value bs)

-- after a tape each mark parts all items
pub replay-sound : {A : Type 0} (value : A → ℤ) (es : List (Step A)) → IsTape es → All (λ (m : Mark). IsSound value (joined (replay value es)) m) (marks_from 0 (replay value es))
replay-sound value es t =
    let a = replay value es in
    All-from_recursion (λ (m : Mark). IsSound value (joined a) m) (marks_from 0 a) (marks-sound value [] 0 a refl (left-none value (bounds a)) (replay_from-rises value es (last []) tt) (replay-ordered value es t))
