-- Closing up from piece to piece is the removal's ripple.
use Rattle.std.proofs.Common.{◌≡◌, ℕ, suc, zero, ◌+◌, ◌-◌, ◌<◌, ◌≤◌, ℤ, true, false, cond, List, [], ◌∷◌, ◌++◌, length, map, reverse, take, drop, get_or, set, nat_lt, zip, refl, sym, ap, ap₂, ◌∙◌, arith, subst, inl, inr}
use Rattle.std.proofs.lemmas.Bool.{lt-ltb, le-ltb, ltb-true, ltb-false, cases_Bool}
use Rattle.std.proofs.lemmas.List.{append_assoc, append-nil, length-append, length-reverse, reverse-reverse, get_or_at, set_at, take_at, length-take-le, drop_more, get_or-drop}
use Rattle.std.proofs.lemmas.Slice.Zip.{length-zip}
use Rattle.sw_kernel.specs.declared.mark.Mark.{Mark}
use Rattle.sw_kernel.specs.Arrangement.{Arrangement, last, piece, joined, first_to_end, last_to_front, take_out, each_piece, ripple_remove}
use Rattle.sw_kernel.specs.Ripple.{holder_of, earlier, earlier_from, closed_up, origin}
use Rattle.sw_kernel.specs.Flat.{marks_from, IsFlat}
use Rattle.sw_kernel.proofs.Parts.{reverse_end, reverse-cons}

-- the hole before these items takes the last of them
moves : {A : Type 0} (d : A) (rs ps : List A) (y : A) (ws : List A) (hole e : ℕ) → length ps ≡ hole → hole + length (reverse rs) ≡ e → (j : A) × (set (ps ++ y ∷ (reverse rs ++ ws)) hole (get_or (ps ++ y ∷ (reverse rs ++ ws)) e d) ≡ (ps ++ reverse (first_to_end rs)) ++ j ∷ ws)
moves d [] ps y ws hole e eh ee =
    let z : hole ≡ e = omega arith in
    let Is : ℕ → Type 0 = λ i. set (ps ++ y ∷ ws) hole (get_or (ps ++ y ∷ ws) i d) ≡ (ps ++ []) ++ y ∷ ws in
    (y, subst Is z (ap (set (ps ++ y ∷ ws) hole) (get_or_at ps y ws d hole eh) ∙ set_at ps y ws y hole eh ∙ ap (λ l. l ++ y ∷ ws) (sym (append-nil ps))))
moves {A} d (r ∷ rs) ps y ws hole e eh ee =
    let init = reverse rs in
    let split : reverse (r ∷ rs) ++ ws ≡ init ++ r ∷ ws = ap (λ l. l ++ ws) (reverse-cons r rs) ∙ append_assoc init (r ∷ []) ws in
    let zs = ps ++ y ∷ (init ++ r ∷ ws) in
    let long : length (ps ++ y ∷ init) ≡ e = length-append ps (y ∷ init) ∙ omega (arith, length-reverse (r ∷ rs), length-reverse rs) in
    let at : get_or zs e d ≡ r = ap (λ l. get_or l e d) (sym (append_assoc ps (y ∷ init) (r ∷ ws))) ∙ get_or_at (ps ++ y ∷ init) r ws d e long in
    let front : reverse (first_to_end (r ∷ rs)) ≡ r ∷ init = reverse_end rs r in
    let F : List A → List A = λ l. set (ps ++ y ∷ l) hole (get_or (ps ++ y ∷ l) e d) in
    (r, ap F split ∙ ap (set zs hole) at ∙ set_at ps y (init ++ r ∷ ws) r hole eh ∙ sym (append_assoc ps (r ∷ init) (r ∷ ws)) ∙ ap (λ l. (ps ++ l) ++ r ∷ ws) (sym front))

moves-last : {A : Type 0} (d : A) (xs ps : List A) (y : A) (ws : List A) (hole e : ℕ) → length ps ≡ hole → hole + length xs ≡ e → (j : A) × (set (ps ++ y ∷ (xs ++ ws)) hole (get_or (ps ++ y ∷ (xs ++ ws)) e d) ≡ (ps ++ last_to_front xs) ++ j ∷ ws)
moves-last {A} d xs ps y ws hole e eh ee =
    let back : reverse (reverse xs) ≡ xs = reverse-reverse xs in
    let P : List A → Type 0 = λ l. (j : A) × (set (ps ++ y ∷ (l ++ ws)) hole (get_or (ps ++ y ∷ (l ++ ws)) e d) ≡ (ps ++ last_to_front xs) ++ j ∷ ws) in
    subst P back (moves d (reverse xs) ps y ws hole e eh (ap (λ l. hole + length l) back ∙ ee))

front-length : {A : Type 0} (xs : List A) → length (first_to_end xs) ≡ length xs
front-length [] = refl
front-length (x ∷ xs) = length-append xs (x ∷ []) ∙ omega arith

-- the last item coming to the front leaves as many items
pub back-length : {A : Type 0} (xs : List A) → length (last_to_front xs) ≡ length xs
back-length xs = length-reverse (first_to_end (reverse xs)) ∙ front-length (reverse xs) ∙ length-reverse xs

-- the pieces after the hole
pub closed-rest : {A : Type 0} (d : A) (rest : Arrangement A) (ps : List A) (y : A) (hole i n : ℕ) → length ps ≡ hole → hole + 1 ≡ i → length (ps ++ y ∷ joined rest) ≡ n → take (n - 1) (closed_up d (marks_from i rest) n hole (ps ++ y ∷ joined rest)) ≡ ps ++ joined (each_piece last_to_front rest)
closed-rest d (last xs) ps y hole i n eh ei en =
    let e : hole + length xs ≡ n - 1 = omega (arith, length-append ps (y ∷ xs)) in
    let step = moves-last d xs ps y [] hole (n - 1) eh e in
    let plain : ps ++ y ∷ (xs ++ []) ≡ ps ++ y ∷ xs = ap (λ l. ps ++ y ∷ l) (append-nil xs) in
    ap (take (n - 1)) (ap (λ l. set l hole (get_or l (n - 1) d)) (sym plain) ∙ step.1) ∙
    take_at (ps ++ last_to_front xs) (step.0 ∷ []) (n - 1) (length-append ps (last_to_front xs) ∙ omega (arith, back-length xs))
closed-rest {A} d (piece xs b rest) ps y hole i n eh ei en =
    let e : hole + length xs ≡ i + length xs - 1 = omega arith in
    let step = moves-last d xs ps y (joined rest) hole (i + length xs - 1) eh e in
    let qs = ps ++ last_to_front xs in
    let long : length qs ≡ i + length xs - 1 = length-append ps (last_to_front xs) ∙ omega (arith, back-length xs) in
    let whole : length (qs ++ step.0 ∷ joined rest) ≡ n = omega (arith, length-append qs (step.0 ∷ joined rest), length-append ps (y ∷ (xs ++ joined rest)), length-append xs (joined rest)) in
    let next : i + length xs - 1 + 1 ≡ i + length xs = omega arith in
    ap (λ l. take (n - 1) (closed_up d (marks_from (i + length xs) rest) n (i + length xs - 1) l)) step.1 ∙
    closed-rest d rest qs step.0 (i + length xs - 1) (i + length xs) n long next whole ∙
    append_assoc ps (last_to_front xs) (joined (each_piece last_to_front rest))

-- the piece that has the place
parts_at : {A : Type 0} (xs : List A) (k : ℕ) (d : A) → k < length xs → (xs ≡ take k xs ++ get_or xs k d ∷ drop (k + 1) xs) × (take_out xs k ≡ take k xs ++ last_to_front (drop (k + 1) xs))
parts_at [] k d lt = absurd (omega arith)
parts_at (x ∷ xs) zero d lt = (refl, refl)
parts_at (x ∷ xs) (suc k) d lt =
    let h = parts_at xs k d (omega arith) in
    let z : suc k + 1 ≡ suc (k + 1) = omega arith in
    rw z (ap (λ l. x ∷ l) h.0, ap (λ l. x ∷ l) h.1)

take_out-length : {A : Type 0} (xs : List A) (k : ℕ) → k < length xs → length (take_out xs k) + 1 ≡ length xs
take_out-length [] k lt = absurd (omega arith)
take_out-length (x ∷ xs) zero lt = let h = back-length xs in omega arith
take_out-length (x ∷ xs) (suc k) lt = let h = take_out-length xs k (omega arith) in omega arith

-- a piece that has the place, with what follows it
opened : {A : Type 0} (d : A) (xs ps ws : List A) (k i at e : ℕ) → length ps ≡ i → at ≡ i + k → k < length xs → i + length xs ≡ e + 1 → (j : A) × (set (ps ++ (xs ++ ws)) at (get_or (ps ++ (xs ++ ws)) e d) ≡ (ps ++ take_out xs k) ++ j ∷ ws)
opened d xs ps ws k i at e ei ea lt ee =
    let us = take k xs in let y = get_or xs k d in let vs = drop (k + 1) xs in
    let parts = parts_at xs k d lt in
    let few : length us ≡ k = length-take-le k xs (omega arith) in
    let rest : length xs ≡ length us + (1 + length vs) = ap length parts.0 ∙ length-append us (y ∷ vs) ∙ omega arith in
    let long : length (ps ++ us) ≡ at = length-append ps us ∙ omega arith in
    let zs : ps ++ (xs ++ ws) ≡ (ps ++ us) ++ y ∷ (vs ++ ws) = ap (λ l. ps ++ (l ++ ws)) parts.0 ∙ ap (λ l. ps ++ l) (append_assoc us (y ∷ vs) ws) ∙ sym (append_assoc ps us (y ∷ (vs ++ ws))) in
    let step = moves-last d vs (ps ++ us) y ws at e long (omega arith) in
    let out : (ps ++ us) ++ last_to_front vs ≡ ps ++ take_out xs k = append_assoc ps us (last_to_front vs) ∙ ap (λ l. ps ++ l) (sym parts.1) in
    (step.0, ap (λ l. set l at (get_or l e d)) zs ∙ step.1 ∙ ap (λ l. l ++ step.0 ∷ ws) out)

-- a hole closed up from piece to piece, and the last place cut off, leaves the removal's items
pub closed-remove : {A : Type 0} (d : A) (a : Arrangement A) (ps : List A) (i k at n : ℕ) → length ps ≡ i → at ≡ i + k → k < length (joined a) → length (ps ++ joined a) ≡ n → take (n - 1) (closed_up d (drop (holder_of (marks_from i a) at) (marks_from i a)) n at (ps ++ joined a)) ≡ ps ++ joined (ripple_remove k a)
closed-remove {A} d (last xs) ps i k at n ei ea lt en =
    let e : i + length xs ≡ n - 1 + 1 = omega (arith, length-append ps xs) in
    let step = opened d xs ps [] k i at (n - 1) ei ea lt e in
    let plain : ps ++ (xs ++ []) ≡ ps ++ xs = ap (λ l. ps ++ l) (append-nil xs) in
    let F : List A → List A = λ l. set l at (get_or l (n - 1) d) in
    ap (take (n - 1)) (ap F (sym plain) ∙ step.1) ∙
    take_at (ps ++ take_out xs k) (step.0 ∷ []) (n - 1) (length-append ps (take_out xs k) ∙ omega (arith, take_out-length xs k lt))
closed-remove {A} d (piece xs b rest) ps i k at n ei ea lt en =
    elim (cases_Bool (nat_lt k (length xs))) [
      | inl here ↦
          let below : k < length xs = ltb-true k (length xs) here in
          let there : nat_lt at (i + length xs) ≡ true = lt-ltb at (i + length xs) (omega arith) in
          let j = i + length xs - 1 in
          let ej : i + length xs ≡ j + 1 = omega arith in
          let step = opened d xs ps (joined rest) k i at j ei ea below ej in
          let qs = ps ++ take_out xs k in
          let long : length qs ≡ j = length-append ps (take_out xs k) ∙ omega (arith, take_out-length xs k below) in
          let whole : length (qs ++ step.0 ∷ joined rest) ≡ n = omega (arith, length-append qs (step.0 ∷ joined rest), length-append ps (xs ++ joined rest), length-append xs (joined rest)) in
          rw (here, there)
          (ap (λ l. take (n - 1) (closed_up d (marks_from (i + length xs) rest) n j l)) step.1 ∙
          closed-rest d rest qs step.0 j (i + length xs) n long (sym ej) whole ∙
          append_assoc ps (take_out xs k) (joined (each_piece last_to_front rest)))
      | inr past ↦
          let above : length xs ≤ k = ltb-false k (length xs) past in
          let there : nat_lt at (i + length xs) ≡ false = le-ltb at (i + length xs) (omega arith) in
          let more : (ps ++ xs) ++ joined rest ≡ ps ++ (xs ++ joined rest) = append_assoc ps xs (joined rest) in
          let long : length (ps ++ xs) ≡ i + length xs = length-append ps xs ∙ omega arith in
          let whole : length ((ps ++ xs) ++ joined rest) ≡ n = ap length more ∙ en in
          let ms = marks_from (i + length xs) rest in
          rw (past, there)
          (ap (λ l. take (n - 1) (closed_up d (drop (holder_of ms at) ms) n at l)) (sym more) ∙
          closed-remove d rest (ps ++ xs) (i + length xs) (k - length xs) at n long (omega arith) (omega (arith, length-append xs (joined rest))) whole ∙
          append_assoc ps xs (joined (ripple_remove (k - length xs) rest)))
    ]

-- the marks
marks-back : {A : Type 0} (rest : Arrangement A) (i j : ℕ) → i + 1 ≡ j → marks_from i (each_piece last_to_front rest) ≡ map earlier (marks_from j rest)
marks-back (last xs) i j e = refl
marks-back (piece xs b rest) i j e =
    let z : i + length (last_to_front xs) ≡ j + length xs - 1 = omega (arith, back-length xs) in
    rw z (ap (λ l. record { bound = b; at = j + length xs - 1 } ∷ l) (marks-back rest (j + length xs - 1) (j + length xs) (omega arith)))

-- a removal puts the marks after its place one place earlier
pub marks-remove : {A : Type 0} (a : Arrangement A) (i k at : ℕ) → at ≡ i + k → k < length (joined a) → marks_from i (ripple_remove k a) ≡ earlier_from (holder_of (marks_from i a) at) (marks_from i a)
marks-remove (last xs) i k at ea lt = refl
marks-remove (piece xs b rest) i k at ea lt =
    elim (cases_Bool (nat_lt k (length xs))) [
      | inl here ↦
          let below : k < length xs = ltb-true k (length xs) here in
          let there : nat_lt at (i + length xs) ≡ true = lt-ltb at (i + length xs) (omega arith) in
          let z : i + length (take_out xs k) ≡ i + length xs - 1 = omega (arith, take_out-length xs k below) in
          rw (here, there) (rw z (ap (λ l. record { bound = b; at = i + length xs - 1 } ∷ l) (marks-back rest (i + length xs - 1) (i + length xs) (omega arith))))
      | inr past ↦
          let above : length xs ≤ k = ltb-false k (length xs) past in
          let there : nat_lt at (i + length xs) ≡ false = le-ltb at (i + length xs) (omega arith) in
          rw (past, there) (ap (λ l. record { bound = b; at = i + length xs } ∷ l) (marks-remove rest (i + length xs) (k - length xs) at (omega arith) (omega (arith, length-append xs (joined rest)))))
    ]

-- ---- the loops
pub same-at : (xs ys : List Mark) (k : ℕ) (d : Mark) → drop k xs ≡ drop k ys → get_or xs k d ≡ get_or ys k d
same-at xs ys k d e =
    let z : k + 0 ≡ k = omega arith in
    let P : ℕ → Type 0 = λ j. get_or xs j d ≡ get_or ys j d in
    subst P z (sym (get_or-drop k xs 0 d) ∙ ap (λ l. get_or l 0 d) e ∙ get_or-drop k ys 0 d)

-- one turn: the item before the k-th mark fills the hole, and its place is closed up from the next mark on
pub close-step : {A : Type 0} (d : A) (ms : List Mark) (k n hole : ℕ) (zs zs' : List A) (m : Mark) → k < length ms → zs' ≡ set zs hole (get_or zs ((get_or ms k m).at - 1) d) → closed_up d (drop (k + 1) ms) n ((get_or ms k m).at - 1) zs' ≡ closed_up d (drop k ms) n hole zs
close-step d ms k n hole zs zs' m lt e =
    ap (closed_up d (drop (k + 1) ms) n ((get_or ms k m).at - 1)) e ∙ sym (ap (λ l. closed_up d l n hole zs) (drop_more ms k m lt))

-- the mark that ends a place's piece stands above the place
pub holder-above : (ms : List Mark) (place : ℕ) (d : Mark) → holder_of ms place < length ms → place < (get_or ms (holder_of ms place) d).at
holder-above [] place d lt = absurd (omega arith)
holder-above (m ∷ ms) place d lt =
    elim (cases_Bool (nat_lt place m.at)) [
      | inl here ↦ rw here (ltb-true place m.at here)
      | inr past ↦ rw past (holder-above ms place d (let h : cond (nat_lt place m.at) 0 (suc (holder_of ms place)) < suc (length ms) = lt in let g : suc (holder_of ms place) < suc (length ms) = rw past at h in omega arith))
    ]

zip-take : {A B : Type 0} (n : ℕ) (xs : List A) (ys : List B) → zip (take n xs) (take n ys) ≡ take n (zip xs ys)
zip-take zero xs ys = refl
zip-take (suc n) [] ys = refl
zip-take (suc n) (x ∷ xs) [] = refl
zip-take (suc n) (x ∷ xs) (y ∷ ys) = ap (λ l. (x, y) ∷ l) (zip-take n xs ys)

-- two lists closed up and cut by one, and the earlier marks, are the arrangement after the removal
pub removal-flat : (place : ℕ) (a : Arrangement (ℤ × ℤ)) (hs ts hs' ts' : List ℤ) (ms ms' : List Mark) (from : ℕ) → IsFlat a (zip hs ts) ms → from ≡ holder_of ms place → place < length hs → length hs ≡ length ts → zip hs' ts' ≡ closed_up origin (drop from ms) (length hs) place (zip hs ts) → ms' ≡ earlier_from from ms → IsFlat (ripple_remove place a) (zip (take (length hs - 1) hs') (take (length hs - 1) ts')) ms'
removal-flat place a hs ts hs' ts' ms ms' from flat ef lt same ez em =
    let n = length hs in
    let long : length (joined a) ≡ n = ap length flat.0 ∙ length-zip hs ts ∙ omega arith in
    let P : List (ℤ × ℤ) → List Mark → List (ℤ × ℤ) = λ zs l. take (n - 1) (closed_up origin (drop (holder_of l place) l) n place zs) in
    let z : place ≡ 0 + place = omega arith in
    let items : take (n - 1) (closed_up origin (drop from ms) n place (zip hs ts)) ≡ joined (ripple_remove place a) =
    ap (λ (k : ℕ). take (n - 1) (closed_up origin (drop k ms) n place (zip hs ts))) ef ∙ sym (ap₂ P flat.0 flat.1) ∙ closed-remove origin a [] 0 place place n refl z (omega arith) long in
    let marks : earlier_from from ms ≡ marks_from 0 (ripple_remove place a) =
    ap (λ (k : ℕ). earlier_from k ms) ef ∙ sym (ap (λ (l : List Mark). earlier_from (holder_of l place) l) flat.1) ∙ sym (marks-remove a 0 place place z (omega arith)) in
    (sym items ∙ ap (take (n - 1)) (sym ez) ∙ sym (zip-take (n - 1) hs' ts'), sym (em ∙ marks))

-- each mark that a removal puts earlier stands above 0
pub reaches : (ms : List Mark) (place : ℕ) (from : ℕ) → from ≡ holder_of ms place → ((j k : ℕ) (d : Mark) → j ≤ k → k < length ms → (get_or ms j d).at ≤ (get_or ms k d).at) → (k : ℕ) (d : Mark) → from ≤ k → k < length ms → 0 < (get_or ms k d).at
reaches ms place from ef order k d le lt =
    let first = holder-above ms place d (omega arith) in
    let next = order (holder_of ms place) k d (omega arith) lt in
    omega arith
