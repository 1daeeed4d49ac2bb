-- Carrying from piece to piece is the ripple.
use Rattle.std.proofs.Common.{◌≡◌, ℕ, suc, ◌+◌, ◌<◌, ◌≤◌, ℤ, true, false, cond, List, [], ◌∷◌, ◌++◌, length, map, take, drop, get_or, set, nat_lt, All, zip, refl, sym, ap, ap₂, ◌∙◌, arith, subst}
use Rattle.std.proofs.lemmas.Bool.{lt-ltb, le-ltb}
use Rattle.std.proofs.lemmas.List.Elements.{All-head}
use Rattle.std.proofs.lemmas.List.{get_or-drop, drop_more, drop_all, take_all, append_assoc, append-nil, length-append, get_or_at, set_at}
use Rattle.sw_query.specs.declared.bound.Bound.{Bound}
use Rattle.sw_query.specs.Bounds.{is_left}
use Rattle.sw_kernel.specs.declared.mark.Mark.{Mark}
use Rattle.std.proofs.lemmas.Slice.Zip.{length-zip}
use Rattle.sw_kernel.specs.Partition.{head_of}
use Rattle.sw_kernel.specs.Arrangement.{Arrangement, last, piece, joined, first_to_end, each_piece, ripple_insert}
use Rattle.sw_kernel.specs.Ripple.{piece_of, later, later_from, carried}
use Rattle.sw_kernel.specs.Flat.{marks_from, IsFlat, end_before}

-- one mark whose piece is empty, and one whose piece is not
carried-empty : {A : Type 0} (b : Bound) (i : ℕ) (ms : List Mark) (n : ℕ) (x : A) (zs : List A) → end_before ms n ≤ i → carried (record { bound = b; at = i } ∷ ms) n x zs ≡ carried ms n x zs
carried-empty b i ms n x zs le = let e : nat_lt i (end_before ms n) ≡ false = le-ltb i (end_before ms n) le in rw e refl

carried-full : {A : Type 0} (b : Bound) (i : ℕ) (ms : List Mark) (n : ℕ) (x : A) (zs : List A) → i < end_before ms n → carried (record { bound = b; at = i } ∷ ms) n x zs ≡ carried ms n (get_or zs i x) (set zs i x)
carried-full b i ms n x zs lt = let e : nat_lt i (end_before ms n) ≡ true = lt-ltb i (end_before ms n) lt in rw e refl

-- an item carried on from a mark comes first after it, and each later piece's first item goes to its end
pub carried-is : {A : Type 0} (b : Bound) (rest : Arrangement A) (ps : List A) (i n : ℕ) (x : A) → length ps ≡ i → length (ps ++ joined rest) ≡ n → carried (record { bound = b; at = i } ∷ marks_from i rest) n x (ps ++ joined rest) ≡ ps ++ x ∷ joined (each_piece first_to_end rest)
carried-is b (last []) ps i n x ei en =
    carried-empty b i [] n x (ps ++ []) (omega (arith, length-append ps [])) ∙ ap (λ l. l ++ x ∷ []) (append-nil ps)
carried-is b (last (y ∷ ys)) ps i n x ei en =
    carried-full b i [] n x (ps ++ y ∷ ys) (omega (arith, length-append ps (y ∷ ys))) ∙
    ap₂ (λ u v. v ++ u ∷ []) (get_or_at ps y ys x i ei) (set_at ps y ys x i ei) ∙ append_assoc ps (x ∷ ys) (y ∷ [])
carried-is b (piece [] c rest) ps i n x ei en =
    let z : i ≡ i + 0 = omega arith in
    let Is : ℕ → Type 0 = λ j. carried (record { bound = b; at = i } ∷ record { bound = c; at = j } ∷ marks_from j rest) n x (ps ++ joined rest) ≡ ps ++ x ∷ joined (each_piece first_to_end rest) in
    subst Is z (carried-empty b i (record { bound = c; at = i } ∷ marks_from i rest) n x (ps ++ joined rest) (omega arith) ∙ carried-is c rest ps i n x ei en)
carried-is b (piece (y ∷ ys) c rest) ps i n x ei en =
    let j = i + length (y ∷ ys) in
    let ms = record { bound = c; at = j } ∷ marks_from j rest in
    let more : (ps ++ x ∷ ys) ++ joined rest ≡ ps ++ x ∷ (ys ++ joined rest) = append_assoc ps (x ∷ ys) (joined rest) in
    let long : length (ps ++ x ∷ ys) ≡ j = length-append ps (x ∷ ys) ∙ omega arith in
    let whole : length ((ps ++ x ∷ ys) ++ joined rest) ≡ n = ap length more ∙ length-append ps (x ∷ (ys ++ joined rest)) ∙ sym (length-append ps (y ∷ (ys ++ joined rest))) ∙ en in
    carried-full b i ms n x (ps ++ y ∷ (ys ++ joined rest)) (omega arith) ∙
    ap₂ (λ u v. carried ms n u v) (get_or_at ps y (ys ++ joined rest) x i ei) (set_at ps y (ys ++ joined rest) x i ei ∙ sym more) ∙
    carried-is c rest (ps ++ x ∷ ys) j n y long whole ∙
    append_assoc ps (x ∷ ys) (y ∷ joined (each_piece first_to_end rest)) ∙
    ap (λ l. ps ++ x ∷ l) (sym (append_assoc ys (y ∷ []) (joined (each_piece first_to_end rest))))

-- from the first mark on
pub carried-insert : {A : Type 0} (value : A → ℤ) (x : A) (a : Arrangement A) (ps : List A) (i n : ℕ) → length ps ≡ i → length (ps ++ joined a) ≡ n → carried (drop (piece_of (marks_from i a) (value x)) (marks_from i a)) n x (ps ++ joined a) ≡ ps ++ joined (ripple_insert value x a)
carried-insert value x (last xs) ps i n ei en = append_assoc ps xs (x ∷ [])
carried-insert {A} value x (piece xs b rest) ps i n ei en =
    let j = i + length xs in
    let m : Mark = record { bound = b; at = j } in
    let ms = m ∷ marks_from j rest in
    let more : (ps ++ xs) ++ joined rest ≡ ps ++ (xs ++ joined rest) = append_assoc ps xs (joined rest) in
    let long : length (ps ++ xs) ≡ j = length-append ps xs ∙ omega arith in
    let whole : length ((ps ++ xs) ++ joined rest) ≡ n = ap length more ∙ en in
    elim (is_left b (value x)) as (λ t. carried (drop (cond t 0 (suc (piece_of (marks_from j rest) (value x)))) ms) n x (ps ++ (xs ++ joined rest))
    ≡ ps ++ joined (cond t (piece (xs ++ x ∷ []) b (each_piece first_to_end rest)) (piece xs b (ripple_insert value x rest)))) [
      | true ↦ ap (carried ms n x) (sym more) ∙ carried-is b rest (ps ++ xs) j n x long whole ∙ append_assoc ps xs (x ∷ joined (each_piece first_to_end rest)) ∙
          ap (λ l. ps ++ l) (sym (append_assoc xs (x ∷ []) (joined (each_piece first_to_end rest))))
      | false ↦ ap (carried (drop (piece_of (marks_from j rest) (value x)) (marks_from j rest)) n x) (sym more) ∙ carried-insert value x rest (ps ++ xs) j n long whole ∙ append_assoc ps xs (joined (ripple_insert value x rest))
    ]

-- the marks
marks-each : {A : Type 0} (rest : Arrangement A) (i : ℕ) → marks_from (i + 1) (each_piece first_to_end rest) ≡ map later (marks_from i rest)
marks-each (last xs) i = refl
marks-each (piece [] b rest) i =
    let z : i + 1 + 0 ≡ i + 0 + 1 = omega arith in
    rw z (ap (λ l. record { bound = b; at = i + 0 + 1 } ∷ l) (marks-each rest (i + 0)))
marks-each (piece (y ∷ ys) b rest) i =
    let z : i + 1 + length (ys ++ y ∷ []) ≡ i + suc (length ys) + 1 = omega (arith, length-append ys (y ∷ [])) in
    rw z (ap (λ l. record { bound = b; at = i + suc (length ys) + 1 } ∷ l) (marks-each rest (i + suc (length ys))))

-- an insertion puts the marks from the end of its piece on one place later
pub marks-insert : {A : Type 0} (value : A → ℤ) (x : A) (a : Arrangement A) (i : ℕ) → marks_from i (ripple_insert value x a) ≡ later_from (piece_of (marks_from i a) (value x)) (marks_from i a)
marks-insert value x (last xs) i = refl
marks-insert value x (piece xs b rest) i =
    let j = i + length xs in
    let z : i + length (xs ++ x ∷ []) ≡ j + 1 = omega (arith, length-append xs (x ∷ [])) in
    elim (is_left b (value x)) as (λ t. marks_from i (cond t (piece (xs ++ x ∷ []) b (each_piece first_to_end rest)) (piece xs b (ripple_insert value x rest)))
    ≡ later_from (cond t 0 (suc (piece_of (marks_from j rest) (value x)))) (record { bound = b; at = j } ∷ marks_from j rest)) [
      | true ↦ rw z (ap (λ l. record { bound = b; at = j + 1 } ∷ l) (marks-each rest j))
      | false ↦ ap (λ l. record { bound = b; at = j } ∷ l) (marks-insert value x rest j)
    ]

-- ---- the loops
pub end-le : (ms : List Mark) (n : ℕ) → All (λ (m : Mark). m.at ≤ n) ms → end_before ms n ≤ n
end-le [] n h = omega arith
end-le (m ∷ ms) n h = All-head (λ (m : Mark). m.at ≤ n) m ms h

-- one turn: the item takes the first place after the k-th mark, if there is one, whose item is carried on
pub carry-step : {A : Type 0} (ms : List Mark) (k n at end : ℕ) (x x' : A) (zs zs' : List A) (d : Mark) → k < length ms → at ≡ (get_or ms k d).at → end ≡ end_before (drop (k + 1) ms) n → zs' ≡ cond (nat_lt at end) (set zs at x) zs → x' ≡ cond (nat_lt at end) (get_or zs at x) x → carried (drop (k + 1) ms) n x' zs' ≡ carried (drop k ms) n x zs
carry-step {A} ms k n at end x x' zs zs' d lt ea ee ez ex =
    let rest = drop (k + 1) ms in
    let m = get_or ms k d in
    let P : ℕ → ℕ → List A = λ a e. carried rest n (cond (nat_lt a e) (get_or zs a x) x) (cond (nat_lt a e) (set zs a x) zs) in
    ap₂ (λ u v. carried rest n u v) ex ez ∙ ap₂ P ea ee ∙ sym (ap (λ l. carried l n x zs) (drop_more ms k d lt))

-- the k-th mark stands below n, if from there on the marks are those of a list that stands below n
pub kept-at : (xs ys : List Mark) (k n : ℕ) (d : Mark) → drop k xs ≡ drop k ys → k < length ys → All (λ (m : Mark). m.at < n) ys → (get_or xs k d).at < n
kept-at xs ys k n d e lt h =
    let z : k + 0 ≡ k = omega arith in
    let same : get_or xs (k + 0) d ≡ get_or ys (k + 0) d = sym (get_or-drop k xs 0 d) ∙ ap (λ l. get_or l 0 d) e ∙ get_or-drop k ys 0 d in
    let P : ℕ → Type 0 = λ j. get_or xs j d ≡ get_or ys j d in
    let there = subst P z same in
    let Q : Mark → Type 0 = λ m. m.at < n in
    subst Q (sym there) (h k d lt)

zip-push : {A B : Type 0} (xs : List A) (ys : List B) (a : A) (b : B) → length xs ≡ length ys → zip (xs ++ a ∷ []) (ys ++ b ∷ []) ≡ zip xs ys ++ (a, b) ∷ []
zip-push [] [] a b e = refl
zip-push [] (y ∷ ys) a b e = absurd (omega arith)
zip-push (x ∷ xs) [] a b e = absurd (omega arith)
zip-push (x ∷ xs) (y ∷ ys) a b e = ap (λ l. (x, y) ∷ l) (zip-push xs ys a b (omega arith))

-- two lists that a pair was carried through, and the later marks, are the arrangement after the insertion
pub ripple-flat : (h t : ℤ) (a : Arrangement (ℤ × ℤ)) (hs ts hs' ts' : List ℤ) (ms ms' : List Mark) (from : ℕ) (u v : ℤ) → IsFlat a (zip hs ts) ms → from ≡ piece_of ms h → length hs ≡ length ts → length hs' ≡ length ts' → zip hs' ts' ++ (u, v) ∷ [] ≡ carried (drop from ms) (length hs) (h, t) (zip hs ts) → ms' ≡ later_from from ms → IsFlat (ripple_insert head_of (h, t) a) (zip (hs' ++ u ∷ []) (ts' ++ v ∷ [])) ms'
ripple-flat h t a hs ts hs' ts' ms ms' from u v flat ef same same' ez em =
    let x : ℤ × ℤ = (h, t) in
    let n = length hs in
    let long : length (joined a) ≡ n = ap length flat.0 ∙ length-zip hs ts ∙ omega arith in
    let P : List (ℤ × ℤ) → List Mark → List (ℤ × ℤ) = λ zs l. carried (drop (piece_of l h) l) n x zs in
    let items : carried (drop from ms) n x (zip hs ts) ≡ joined (ripple_insert head_of x a) =
    ap (λ (k : ℕ). carried (drop k ms) n x (zip hs ts)) ef ∙ sym (ap₂ P flat.0 flat.1) ∙ carried-insert head_of x a [] 0 n refl long in
    let marks : later_from from ms ≡ marks_from 0 (ripple_insert head_of x a) =
    ap (λ (k : ℕ). later_from k ms) ef ∙ sym (ap (λ (l : List Mark). later_from (piece_of l h) l) flat.1) ∙ sym (marks-insert head_of x a 0) in
    (sym items ∙ sym ez ∙ sym (zip-push hs' ts' u v same'), sym (em ∙ marks))

-- a Vec's items after its slice was written
pub written : {A : Type 0} (n : ℕ) (xs ys : List A) → length ys ≡ length xs → length xs ≤ n → take n (ys ++ drop (length ys) xs) ≡ ys
written n xs ys e le = ap (take n) (ap (λ l. ys ++ l) (drop_all (length ys) xs (omega arith)) ∙ append-nil ys) ∙ take_all n ys (omega arith)
