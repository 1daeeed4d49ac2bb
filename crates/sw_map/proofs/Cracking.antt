-- A crack on the flat lists.
use Rattle.std.proofs.Common.{◌≡◌, ℕ, suc, zero, ◌+◌, ◌-◌, ◌<◌, ◌≤◌, ℤ, Bool, true, false, List, [], ◌∷◌, ◌++◌, length, take, drop, zip, count_by, get_or, insert, refl, sym, ap, ap₂, ◌∙◌, arith, subst, inl, inr}
use Rattle.std.proofs.lemmas.Bool.{cases_Bool, true≢false}
use Rattle.std.specs.List.{slice_rotate_right}
use Rattle.std.proofs.lemmas.List.{append_assoc, length-append, take_at, drop_at, length-take, length-drop}
use Rattle.std.proofs.lemmas.Slice.Zip.{firsts-zip}
use Rattle.sw_query.specs.declared.bound.Bound.{Bound}
use Rattle.sw_query.specs.Bounds.{bound_below, is_left, same_bound}
use Rattle.sw_kernel.specs.declared.mark.Mark.{Mark}
use Rattle.sw_kernel.specs.Partition.{goes_left, head_of, partition}
use Rattle.sw_kernel.specs.Arrangement.{Arrangement, last, piece, joined, crack, bounds}
use Rattle.sw_kernel.specs.Flat.{InOrder, IsNew, end_before, marks_below, marks_from, start_at}
use Rattle.sw_kernel.specs.Tapes.{IsRising}
use Rattle.sw_kernel.proofs.Orders.{below-trans, below-new, same-flips}
use Rattle.sw_tape.proofs.Places.{not-below}
use Rattle.sw_kernel.proofs.Cracks.{crack-items, crack-marks}
use Rattle.sw_kernel.proofs.Parts.{count-map}
use Rattle.sw_kernel.proofs.Rising.{crack-rises}
use Rattle.sw_map.specs.Pieces.{IsLaidOut, bounds_of, parted, pieces_between}
use Rattle.sw_map.proofs.Finding.{same-or-less, start-at, step-on, step-no}
use Rattle.sw_map.proofs.Layouts.{bounds-of, laid-out, pieces-joined, pieces-marks, zip-append}

-- where the mark before a bound's place has that bound, the bound is there
pub crack-there : {A : Type 0} (value : A → ℤ) (b : Bound) (i : ℕ) (a : Arrangement A) (n : ℕ) (d : Mark) → marks_below (marks_from i a) b ≡ suc n → same_bound b (get_or (marks_from i a) n d).bound ≡ true → crack value b a ≡ a
crack-there value b i (last xs) n d e h = absurd (omega (arith, e))
crack-there value b i (piece xs c rest) zero d e h = rw h refl
crack-there {A} value b i (piece xs c rest) (suc n) d e h =
    let j = i + length xs in
    elim (cases_Bool (same_bound b c)) [
      | inl here ↦ rw here refl
      | inr other ↦ elim (cases_Bool (bound_below b c)) [
        | inl first ↦ let z : 0 ≡ suc (suc n) = sym (step-no b (record { bound = c; at = j }) (marks_from j rest) first) ∙ e in absurd (omega (arith, z))
        | inr past ↦
            let z : suc (marks_below (marks_from j rest) b) ≡ suc (suc n) = sym (step-on b (record { bound = c; at = j }) (marks_from j rest) past) ∙ e in
            rw (other, past) (ap (λ r. piece xs c r) (crack-there value b j rest n d (omega (arith, z)) h))
      ]
    ]

count-zip : (b : Bound) (hs ts : List ℤ) → length hs ≡ length ts → count_by (goes_left head_of b) (zip hs ts) ≡ count_by (is_left b) hs
count-zip b hs ts e = count-map head_of (is_left b) (zip hs ts) ∙ ap (count_by (is_left b)) (firsts-zip hs ts (sym e))

zip-take : {A B : Type 0} (n : ℕ) (xs : List A) (ys : List B) → take n (zip xs ys) ≡ zip (take n xs) (take n ys)
zip-take zero xs ys = refl
zip-take (suc n) [] ys = refl
zip-take (suc n) (x ∷ xs) [] = refl
zip-take (suc n) (x ∷ xs) (y ∷ ys) = ap (λ l. (x, y) ∷ l) (zip-take n xs ys)

zip-none : {A : Type 0} (B : Type 0) (xs : List A) (ys : List B) → ys ≡ [] → zip xs ys ≡ []
zip-none B [] ys e = refl
zip-none B (x ∷ xs) ys e = rw e refl

zip-drop : {A B : Type 0} (n : ℕ) (xs : List A) (ys : List B) → drop n (zip xs ys) ≡ zip (drop n xs) (drop n ys)
zip-drop zero xs ys = refl
zip-drop (suc n) [] ys = refl
zip-drop {A} {B} (suc n) (x ∷ xs) [] = sym (zip-none B (drop n xs) [] refl)
zip-drop (suc n) (x ∷ xs) (y ∷ ys) = zip-drop n xs ys

-- the pairs of two lists of which the same part was written
pub zip-written : (p : ℤ × ℤ → Bool) (s e : ℕ) (hs ts hm tm : List ℤ) → length hs ≡ length ts → s ≤ e → e ≤ length hs → length hm ≡ e - s → length tm ≡ e - s →
    zip hm tm ≡ partition p (zip (take (e - s) (drop s hs)) (take (e - s) (drop s ts))) →
    zip (take s hs ++ (hm ++ drop e hs)) (take s ts ++ (tm ++ drop e ts)) ≡ parted p s e (zip hs ts)
zip-written p s e hs ts hm tm same le within lh lt h =
    let a : length (take s hs) ≡ length (take s ts) = omega (arith, length-take s hs, length-take s ts) in
    let mid : zip hm tm ≡ partition p (take (e - s) (drop s (zip hs ts))) = h ∙ ap (partition p) (sym (ap (take (e - s)) (zip-drop s hs ts) ∙ zip-take (e - s) (drop s hs) (drop s ts))) in
    zip-append (take s hs) (hm ++ drop e hs) (take s ts) (tm ++ drop e ts) a ∙
    ap₂ (λ u v. u ++ v) (sym (zip-take s hs ts)) (zip-append hm (drop e hs) tm (drop e ts) (lh ∙ sym lt) ∙ ap₂ (λ u v. u ++ v) mid (sym (zip-drop e hs ts)))

-- in a part of the lists as many pairs go left as heads lie left of the bound
pub count-part : (b : Bound) (s e : ℕ) (hs ts : List ℤ) → length hs ≡ length ts → count_by (is_left b) (take (e - s) (drop s hs)) ≡ count_by (goes_left head_of b) (take (e - s) (drop s (zip hs ts)))
count-part b s e hs ts same =
    let l : length (take (e - s) (drop s hs)) ≡ length (take (e - s) (drop s ts)) = omega (arith, length-take (e - s) (drop s hs), length-take (e - s) (drop s ts), length-drop s hs, length-drop s ts) in
    sym (ap (count_by (goes_left head_of b)) (ap (take (e - s)) (zip-drop s hs ts) ∙ zip-take (e - s) (drop s hs) (drop s ts)) ∙ count-zip b (take (e - s) (drop s hs)) (take (e - s) (drop s ts)) l)

drop-none : {A : Type 0} (n : ℕ) → drop {A = A} n [] ≡ []
drop-none zero = refl
drop-none (suc n) = refl

drop-add : {A : Type 0} (s k : ℕ) (xs : List A) → drop k (drop s xs) ≡ drop (s + k) xs
drop-add zero k xs = ap (λ (n : ℕ). drop n xs) (omega arith)
drop-add (suc s) k [] = drop-none k ∙ sym (drop-none (suc s + k))
drop-add (suc s) k (x ∷ xs) = let e : suc (s + k) ≡ suc s + k = omega arith in drop-add s k xs ∙ ap (λ (n : ℕ). drop n (x ∷ xs)) e

-- past the first s items, and e - s more, come the items from e on
pub drop-rest : {A : Type 0} (s e : ℕ) (xs : List A) → s ≤ e → drop (e - s) (drop s xs) ≡ drop e xs
drop-rest s e xs le = drop-add s (e - s) xs ∙ ap (λ (n : ℕ). drop n xs) (omega (arith, le))

-- where a new bound's piece is partitioned and its mark put in, the lists are laid out as the crack
pub cracked : (b : Bound) (a : Arrangement (ℤ × ℤ)) (zs zs' : List (ℤ × ℤ)) (ms ms' : List Mark) (k s e : ℕ) →
    joined a ≡ zs → marks_from 0 a ≡ ms → IsRising (bounds_of ms) → IsNew b ms → k ≡ marks_below ms b → s ≡ start_at 0 ms k → e ≡ end_before (drop k ms) (length zs) →
    zs' ≡ parted (goes_left head_of b) s e zs →
    ms' ≡ take k ms ++ record { bound = b; at = s + count_by (goes_left head_of b) (take (e - s) (drop s zs)) } ∷ drop k ms →
    IsLaidOut (crack head_of b a) zs' ms'
cracked b a zs zs' ms ms' k s e ej em r new ek es ee ez et =
    let p : ℤ × ℤ → Bool = goes_left head_of b in
    let own : List Mark = marks_from 0 a in
    let b' : Arrangement (ℤ × ℤ) = crack head_of b a in
    let new' : IsNew b own = subst (λ (l : List Mark). IsNew b l) (sym em) new in
    let K : ℕ = marks_below own b in
    let S : ℕ = start_at 0 own K in
    let E : ℕ = end_before (drop K own) (length (joined a)) in
    let k' : k ≡ K = ek ∙ ap (λ (l : List Mark). marks_below l b) (sym em) in
    let s' : s ≡ S = es ∙ ap₂ (λ (l : List Mark) (j : ℕ). start_at 0 l j) (sym em) k' in
    let e' : e ≡ E = ee ∙ ap₂ (λ (l : List Mark) (j : ℕ). end_before (drop j l) (length zs)) (sym em) k' ∙ ap (λ (z : List (ℤ × ℤ)). end_before (drop K own) (length z)) (sym ej) in
    let items : zs' ≡ joined b' = ez ∙ ap₂ (λ (u v : ℕ). parted p u v zs) s' e' ∙ ap (parted p S E) (sym ej) ∙ crack-items head_of b a [] 0 (length (joined a)) new' refl refl in
    let F : ℕ → ℕ → ℕ → List Mark → List (ℤ × ℤ) → List Mark = λ x y w l z. take x l ++ record { bound = b; at = y + count_by p (take (w - y) (drop y z)) } ∷ drop x l in
    let marks : ms' ≡ marks_from 0 b' = et ∙ ap (λ (x : ℕ). F x s e ms zs) k' ∙ ap (λ (x : ℕ). F K x e ms zs) s' ∙ ap (λ (x : ℕ). F K S x ms zs) e' ∙ ap₂ (F K S E) (sym em) (sym ej) ∙ sym (crack-marks head_of b a [] 0 (length (joined a)) new' refl refl) in
    let r' : IsRising (bounds a) = subst IsRising (bounds-of 0 a) (subst (λ (l : List Mark). IsRising (bounds_of l)) (sym em) r) in
    laid-out b' zs' ms' (sym items, sym marks) (crack-rises head_of b a r')

-- ---- two new bounds
insert-at : (x d : Mark) (ms : List Mark) (k : ℕ) → k ≤ length ms → (get_or (insert ms k x) k d ≡ x) × (k < length (insert ms k x))
insert-at x d [] zero le = (refl, omega arith)
insert-at x d [] (suc k) le = absurd (omega (arith, le))
insert-at x d (m ∷ ms) zero le = (refl, omega arith)
insert-at x d (m ∷ ms) (suc k) le = let h = insert-at x d ms k (omega (arith, le)) in (h.0, omega (arith, h.1))

-- what comes from a place on comes one further behind what is put in before it
insert-rest : {A : Type 0} (x : A) (xs : List A) (k j : ℕ) → k ≤ j → j ≤ length xs → drop (suc j) (insert xs k x) ≡ drop j xs
insert-rest x [] zero j le within = refl
insert-rest x [] (suc k) j le within = absurd (omega (arith, le, within))
insert-rest x (y ∷ xs) zero j le within = refl
insert-rest x (y ∷ xs) (suc k) zero le within = absurd (omega (arith, le))
insert-rest x (y ∷ xs) (suc k) (suc j) le within = insert-rest x xs k j (omega (arith, le)) (omega (arith, within))

-- so does the piece that begins there
insert-start : (i : ℕ) (x : Mark) (ms : List Mark) (k j : ℕ) → k < j → j ≤ length ms → start_at i (insert ms k x) (suc j) ≡ start_at i ms j
insert-start i x [] k j lt within = absurd (omega (arith, lt, within))
insert-start i x (m ∷ ms) k zero lt within = absurd (omega (arith, lt))
insert-start i x (m ∷ ms) zero (suc j) lt within = refl
insert-start i x (m ∷ ms) (suc k) (suc j) lt within = insert-start m.at x ms k j (omega (arith, lt)) (omega (arith, within))

-- the later of two is put in first, or else one place further
insert-both : {A : Type 0} (x y : A) (xs : List A) (k j : ℕ) → k ≤ j → j ≤ length xs → insert (insert xs j y) k x ≡ insert (insert xs k x) (suc j) y
insert-both x y xs zero j le within = refl
insert-both x y xs (suc k) zero le within = absurd (omega (arith, le))
insert-both x y [] (suc k) (suc j) le within = absurd (omega (arith, within))
insert-both x y (z ∷ xs) (suc k) (suc j) le within = ap (λ l. z ∷ l) (insert-both x y xs k j (omega (arith, le)) (omega (arith, within)))

-- a bound above a new mark has one mark more before it
insert-below : (b c : Bound) (at : ℕ) (ms : List Mark) (k : ℕ) → k ≡ marks_below ms b → bound_below b c ≡ true → marks_below (insert ms k (record { bound = b; at = at })) c ≡ suc (marks_below ms c)
insert-below b c at [] zero e h = let no : bound_below c b ≡ false = not-below b c h in rw no refl
insert-below b c at [] (suc k) e h = absurd (omega (arith, e))
insert-below b c at (m ∷ ms) zero e h = let no : bound_below c b ≡ false = not-below b c h in rw no refl
insert-below b c at (m ∷ ms) (suc k) e h = elim (cases_Bool (bound_below b m.bound)) [
  | inl first ↦ let z : suc k ≡ 0 = e ∙ step-no b m ms first in absurd (omega (arith, z))
  | inr past ↦ elim (cases_Bool (bound_below c m.bound)) [
    | inl under ↦ absurd (true≢false (sym (below-trans b c m.bound h under) ∙ past))
    | inr on ↦
        let z : suc k ≡ suc (marks_below ms b) = e ∙ step-on b m ms past in
        rw on (ap suc (insert-below b c at ms k (omega (arith, z)) h))
  ]
]

-- a new bound is new where a mark of another is put in
insert-new : (c : Bound) (x : Mark) (ms : List Mark) (k : ℕ) → k ≤ length ms → same_bound c x.bound ≡ false → IsNew c ms → IsNew c (insert ms k x)
insert-new c x ms zero le h new = (h, new)
insert-new c x [] (suc k) le h new = absurd (omega (arith, le))
insert-new c x (m ∷ ms) (suc k) le h new = (new.0, insert-new c x ms k (omega (arith, le)) h new.1)

-- two items put in together at the later one's place, of which the first is turned back to its own
pub turned : {A : Type 0} (x y : A) (xs : List A) (k j : ℕ) → k ≤ j → j ≤ length xs →
    let both : List A = take j xs ++ x ∷ y ∷ drop j xs in
    take k both ++ (slice_rotate_right (take (j + 1 - k) (drop k both)) 1 ++ drop (j + 1 - k) (drop k both)) ≡ insert (insert xs j y) k x
turned {A} x y xs zero j le within =
    let front : List A = take j xs in
    let rest : List A = y ∷ drop j xs in
    let long : length front ≡ j = omega (arith, length-take j xs, within) in
    let whole : front ++ x ∷ rest ≡ (front ++ x ∷ []) ++ rest = sym (append_assoc front (x ∷ []) rest) in
    let more : length (front ++ x ∷ []) ≡ j + 1 - 0 = omega (arith, length-append front (x ∷ []), long) in
    let before : take (j + 1 - 0) (front ++ x ∷ rest) ≡ front ++ x ∷ [] = ap (take (j + 1 - 0)) whole ∙ take_at (front ++ x ∷ []) rest (j + 1 - 0) more in
    let behind : drop (j + 1 - 0) (front ++ x ∷ rest) ≡ rest = ap (drop (j + 1 - 0)) whole ∙ drop_at (front ++ x ∷ []) rest (j + 1 - 0) more in
    let one : length (front ++ x ∷ []) - 1 ≡ j = omega (arith, more) in
    let turn : slice_rotate_right (front ++ x ∷ []) 1 ≡ x ∷ front = ap (λ (n : ℕ). drop n (front ++ x ∷ []) ++ take n (front ++ x ∷ [])) one ∙ ap₂ (λ u v. u ++ v) (drop_at front (x ∷ []) j long) (take_at front (x ∷ []) j long) in
    ap₂ (λ u v. slice_rotate_right u 1 ++ v) before behind ∙ ap (λ l. l ++ rest) turn
turned x y xs (suc k) zero le within = absurd (omega (arith, le))
turned x y [] (suc k) (suc j) le within = absurd (omega (arith, within))
turned {A} x y (z ∷ xs) (suc k) (suc j) le within =
    let both : List A = take j xs ++ x ∷ y ∷ drop j xs in
    let n : suc j + 1 - suc k ≡ j + 1 - k = omega arith in
    ap (λ l. z ∷ l) (
    ap (λ (i : ℕ). take k both ++ (slice_rotate_right (take i (drop k both)) 1 ++ drop i (drop k both))) n ∙
    turned x y xs k j (omega (arith, le)) (omega (arith, within)))

-- where two new bounds' pieces are partitioned, and their marks are put in, the lists are laid out as the two cracks
pub cracked-two : (b c : Bound) (zs zs' zs'' : List (ℤ × ℤ)) (ms ms'' : List Mark) (k j s e f t u g : ℕ) →
    InOrder 0 (length zs) ms → IsRising (bounds_of ms) → IsNew b ms × IsNew c ms → k ≡ marks_below ms b → j ≡ marks_below ms c → (k ≤ j) × (j ≤ length ms) → bound_below b c ≡ true →
    s ≡ start_at 0 ms k → e ≡ end_before (drop k ms) (length zs) → (k ≡ j → t ≡ f) → (k < j → t ≡ start_at 0 ms j) → u ≡ end_before (drop j ms) (length zs) → length zs' ≡ length zs →
    zs' ≡ parted (goes_left head_of b) s e zs → f ≡ s + count_by (goes_left head_of b) (take (e - s) (drop s zs)) →
    zs'' ≡ parted (goes_left head_of c) t u zs' → g ≡ t + count_by (goes_left head_of c) (take (u - t) (drop t zs')) →
    ms'' ≡ insert (insert ms j (record { bound = c; at = g })) k (record { bound = b; at = f }) →
    IsLaidOut (crack head_of c (crack head_of b (pieces_between 0 zs ms))) zs'' ms''
cracked-two b c zs zs' zs'' ms ms'' k j s e f t u g o r new ek ej places h es ee same apart eu long ez ef ez' eg et =
    let low : Mark = record { bound = b; at = f } in
    let ms' : List Mark = insert ms k low in
    let le : k ≤ length ms = omega (arith, places.0, places.1) in
    let one = cracked b (pieces_between 0 zs ms) zs zs' ms ms' k s e (pieces-joined 0 zs ms) (pieces-marks 0 (length zs) zs ms (omega arith) o) r new.0 ek es ee ez (ap (λ (n : ℕ). insert ms k (record { bound = b; at = n })) ef) in
    let there = insert-at low low ms k le in
    let below : suc j ≡ marks_below ms' c = ap suc ej ∙ sym (insert-below b c f ms k ek h) in
    let new' : IsNew c ms' = insert-new c low ms k le (same-flips c b ∙ below-new b c h) new.1 in
    let begins : t ≡ start_at 0 ms' (suc j) = elim (same-or-less k j places.0) [
      | inl is ↦ same is ∙ sym (start-at 0 ms' k low there.1 ∙ ap (λ (m : Mark). m.at) there.0) ∙ ap (λ (n : ℕ). start_at 0 ms' (suc n)) is
      | inr lt ↦ apart lt ∙ sym (insert-start 0 low ms k j lt places.1)
    ] in
    let ends : u ≡ end_before (drop (suc j) ms') (length zs') = eu ∙ ap₂ (λ (l : List Mark) (n : ℕ). end_before l n) (sym (insert-rest low ms k j places.0 places.1)) (sym long) in
    let et' : ms'' ≡ insert ms' (suc j) (record { bound = c; at = t + count_by (goes_left head_of c) (take (u - t) (drop t zs')) }) = et ∙ insert-both low (record { bound = c; at = g }) ms k j places.0 places.1 ∙ ap (λ (n : ℕ). insert ms' (suc j) (record { bound = c; at = n })) eg in
    let two = cracked c (pieces_between 0 zs' ms') zs' zs'' ms' ms'' (suc j) t u (pieces-joined 0 zs' ms') (pieces-marks 0 (length zs') zs' ms' (omega arith) one.order) one.rising new' below begins ends ez' et' in
    subst (λ (a : Arrangement (ℤ × ℤ)). IsLaidOut (crack head_of c a) zs'' ms'') one.pieces two

-- a bound that is there
pub unchanged : (b : Bound) (zs : List (ℤ × ℤ)) (ms : List Mark) (k : ℕ) (d : Mark) → InOrder 0 (length zs) ms → IsRising (bounds_of ms) → k ≡ marks_below ms b → 0 < k → same_bound b (get_or ms (k - 1) d).bound ≡ true → IsLaidOut (crack head_of b (pieces_between 0 zs ms)) zs ms
unchanged b zs ms k d o r ek lt h =
    let a : Arrangement (ℤ × ℤ) = pieces_between 0 zs ms in
    let mm : marks_from 0 a ≡ ms = pieces-marks 0 (length zs) zs ms (omega arith) o in
    let z : marks_below (marks_from 0 a) b ≡ suc (k - 1) = ap (λ (l : List Mark). marks_below l b) mm ∙ sym ek ∙ omega (arith, lt) in
    let h' : same_bound b (get_or (marks_from 0 a) (k - 1) d).bound ≡ true = ap (λ (l : List Mark). same_bound b (get_or l (k - 1) d).bound) mm ∙ h in
    record { pieces = sym (crack-there head_of b 0 a (k - 1) d z h'); order = o; rising = r }
