-- Flat lists with marks, and the pieces that they are.
use Rattle.std.proofs.Common.{◌≡◌, ℕ, suc, zero, ◌+◌, ◌-◌, ◌<◌, ◌≤◌, ℤ, List, [], ◌∷◌, ◌++◌, length, take, drop, zip, get_or, refl, sym, ap, ap₂, ◌∙◌, arith, subst, pos}
use Rattle.std.proofs.lemmas.List.{length-append, take_at, drop_at, length-take, length-drop, take-append-drop, take-append-le, drop-append-le}
use Rattle.sw_kernel.specs.declared.mark.Mark.{Mark}
use Rattle.sw_kernel.specs.Arrangement.{Arrangement, last, piece, joined, bounds}
use Rattle.sw_kernel.specs.Replay.{load}
use Rattle.sw_kernel.specs.Flat.{InOrder, IsFlat, marks_from}
use Rattle.sw_kernel.specs.Tapes.{IsRising}
use Rattle.sw_kernel.proofs.Marks.{order-end}
use Rattle.sw_map.specs.Pieces.{IsLaidOut, bounds_of, pieces_between}

-- the pieces that marks make of items have all the items, in order
pub pieces-joined : {A : Type 0} (i : ℕ) (xs : List A) (ms : List Mark) → joined (pieces_between i xs ms) ≡ xs
pieces-joined i xs [] = refl
pieces-joined i xs (m ∷ ms) = ap (λ l. take (m.at - i) xs ++ l) (pieces-joined m.at (drop (m.at - i) xs) ms) ∙ take-append-drop (m.at - i) xs

-- the pieces that marks in order make have these marks
pub pieces-marks : {A : Type 0} (i n : ℕ) (xs : List A) (ms : List Mark) → i + length xs ≡ n → InOrder i n ms → marks_from i (pieces_between i xs ms) ≡ ms
pieces-marks i n xs [] e o = refl
pieces-marks {A} i n xs (m ∷ ms) e o =
    let h = order-end m.at n ms o.1 in let le = o.0 in
    let long : i + length (take (m.at - i) xs) ≡ m.at = omega (arith, length-take (m.at - i) xs) in
    let rest : m.at + length (drop (m.at - i) xs) ≡ n = omega (arith, length-drop (m.at - i) xs) in
    let F : ℕ → List Mark = λ k. record { bound = m.bound; at = k } ∷ marks_from k (pieces_between m.at (drop (m.at - i) xs) ms) in
    ap F long ∙ ap (λ l. m ∷ l) (pieces-marks m.at n (drop (m.at - i) xs) ms rest o.1)

-- an arrangement's items and marks make the arrangement
pub pieces-are : {A : Type 0} (i : ℕ) (a : Arrangement A) → pieces_between i (joined a) (marks_from i a) ≡ a
pieces-are i (last xs) = refl
pieces-are {A} i (piece xs b rest) =
    let j = i + length xs in
    let t : take (j - i) (xs ++ joined rest) ≡ xs = take_at xs (joined rest) (j - i) (omega arith) in
    let d : drop (j - i) (xs ++ joined rest) ≡ joined rest = drop_at xs (joined rest) (j - i) (omega arith) in
    ap₂ (λ (u v : List A). piece u b (pieces_between j v (marks_from j rest))) t d ∙ ap (λ r. piece xs b r) (pieces-are j rest)

-- an arrangement's marks are in order, and within its items
pub order-of : {A : Type 0} (i n : ℕ) (a : Arrangement A) → i + length (joined a) ≡ n → InOrder i n (marks_from i a)
order-of i n (last xs) e = omega arith
order-of i n (piece xs b rest) e = (omega arith, order-of (i + length xs) n rest (omega (arith, length-append xs (joined rest))))

-- the bounds of an arrangement's marks are its bounds
pub bounds-of : {A : Type 0} (i : ℕ) (a : Arrangement A) → bounds_of (marks_from i a) ≡ bounds a
bounds-of i (last xs) = refl
bounds-of i (piece xs b rest) = ap (λ l. b ∷ l) (bounds-of (i + length xs) rest)

-- ---- lists in order and the arrangement that they are
pub is-flat : {A : Type 0} (zs : List A) (ms : List Mark) → InOrder 0 (length zs) ms → IsFlat (pieces_between 0 zs ms) zs ms
is-flat zs ms o = (pieces-joined 0 zs ms, pieces-marks 0 (length zs) zs ms (omega arith) o)

-- items and marks that are an arrangement make it
pub flat-pieces : {A : Type 0} (a : Arrangement A) (zs : List A) (ms : List Mark) → IsFlat a zs ms → pieces_between 0 zs ms ≡ a
flat-pieces a zs ms f = ap₂ (λ u v. pieces_between 0 u v) (sym f.0) (sym f.1) ∙ pieces-are 0 a

-- marks that are an arrangement's are in order, and within its items
pub flat-order : {A : Type 0} (a : Arrangement A) (zs : List A) (ms : List Mark) → IsFlat a zs ms → InOrder 0 (length zs) ms
flat-order {A} a zs ms f =
    let o : InOrder 0 (length (joined a)) (marks_from 0 a) = order-of 0 (length (joined a)) a (omega arith) in
    subst (λ (l : List A). InOrder 0 (length l) ms) f.0 (subst (λ (l : List Mark). InOrder 0 (length (joined a)) l) f.1 o)

-- where an arrangement's bounds rise, so do those of its marks
pub flat-rising : {A : Type 0} (a : Arrangement A) (zs : List A) (ms : List Mark) → IsFlat a zs ms → IsRising (bounds a) → IsRising (bounds_of ms)
flat-rising a zs ms f r = subst (λ (l : List Mark). IsRising (bounds_of l)) f.1 (subst IsRising (sym (bounds-of 0 a)) r)

-- where the bounds of marks in order rise, so do those of the pieces that they make
pub rising-flat : {A : Type 0} (zs : List A) (ms : List Mark) → InOrder 0 (length zs) ms → IsRising (bounds_of ms) → IsRising (bounds (pieces_between 0 zs ms))
rising-flat zs ms o r = subst IsRising (bounds-of 0 (pieces_between 0 zs ms)) (subst (λ (l : List Mark). IsRising (bounds_of l)) (sym (pieces-marks 0 (length zs) zs ms (omega arith) o)) r)

-- flat lists of an arrangement with rising bounds
pub laid-out : {A : Type 0} (a : Arrangement A) (zs : List A) (ms : List Mark) → IsFlat a zs ms → IsRising (bounds a) → IsLaidOut a zs ms
laid-out a zs ms f r = record { pieces = flat-pieces a zs ms f; order = flat-order a zs ms f; rising = flat-rising a zs ms f r }

-- lists in order with rising marks are laid out as their own pieces
pub laid-same : {A : Type 0} (zs : List A) (ms : List Mark) → InOrder 0 (length zs) ms → IsRising (bounds_of ms) → IsLaidOut (pieces_between 0 zs ms) zs ms
laid-same zs ms o r = record { pieces = refl; order = o; rising = r }

-- ---- more items at the end
pub pieces-loaded : {A : Type 0} (i n : ℕ) (xs ys : List A) (ms : List Mark) → i + length xs ≡ n → InOrder i n ms → pieces_between i (xs ++ ys) ms ≡ load ys (pieces_between i xs ms)
pieces-loaded i n xs ys [] e o = refl
pieces-loaded {A} i n xs ys (m ∷ ms) e o =
    let h = order-end m.at n ms o.1 in let le = o.0 in
    let k = m.at - i in
    let short : k ≤ length xs = omega arith in
    let front : take k (xs ++ ys) ≡ take k xs = take-append-le k xs ys short in
    let back : drop k (xs ++ ys) ≡ drop k xs ++ ys = drop-append-le k xs ys short in
    let rest : m.at + length (drop k xs) ≡ n = omega (arith, length-drop k xs) in
    ap₂ (λ (u v : List A). piece u m.bound (pieces_between m.at v ms)) front back ∙ ap (λ r. piece (take k xs) m.bound r) (pieces-loaded m.at n (drop k xs) ys ms rest o.1)

-- marks in order within n items are in order within more
pub order-longer : (i n k : ℕ) (ms : List Mark) → n ≤ k → InOrder i n ms → InOrder i k ms
order-longer i n k [] le o = omega (arith, o)
order-longer i n k (m ∷ ms) le o = (o.0, order-longer m.at n k ms le o.1)

-- ---- pairs of two lists
pub zip-long : (hs ts : List ℤ) → length hs ≡ length ts → length (zip hs ts) ≡ length hs
zip-long [] ts e = refl
zip-long (h ∷ hs) [] e = absurd (omega (arith, e))
zip-long (h ∷ hs) (t ∷ ts) e = ap suc (zip-long hs ts (omega (arith, e)))

-- the pairs of two lists that were appended to are their pairs, and then those of what was appended
pub zip-append : {A B : Type 0} (xs us : List A) (ys vs : List B) → length xs ≡ length ys → zip (xs ++ us) (ys ++ vs) ≡ zip xs ys ++ zip us vs
zip-append [] us [] vs e = refl
zip-append [] us (y ∷ ys) vs e = absurd (omega (arith, e))
zip-append (x ∷ xs) us [] vs e = absurd (omega (arith, e))
zip-append (x ∷ xs) us (y ∷ ys) vs e = ap (λ l. (x, y) ∷ l) (zip-append xs us ys vs (omega (arith, e)))

-- the pair at a place is the head and the tail at that place
pub zip-at : (hs ts : List ℤ) (k : ℕ) → length hs ≡ length ts → k < length hs → get_or (zip hs ts) k (pos 0, pos 0) ≡ (get_or hs k (pos 0), get_or ts k (pos 0))
zip-at [] ts k e lt = absurd (omega (arith, lt))
zip-at (h ∷ hs) [] k e lt = absurd (omega (arith, e))
zip-at (h ∷ hs) (t ∷ ts) zero e lt = refl
zip-at (h ∷ hs) (t ∷ ts) (suc k) e lt = zip-at hs ts k (omega (arith, e)) (omega (arith, lt))
