-- The places of cells within two bounds, by pairs of cells and places in some order.
use Rattle.std.proofs.Common.{◌≡◌, ◌<◌, ◌≤◌, ◌≤ℤ◌, ◌+◌, ◌-◌, ◌++◌, ◌==◌, ◌∙◌, ◌⊎◌, ℕ, ℤ, zero, suc, Bool, true, false, cond, not, List, [], ◌∷◌, length, map, filter, get_or, take, drop, refl, sym, ap, arith, Bor, Some, None, ⊎_elim}
use Rattle.std.specs.Prelude.{IsPermutation, Option, sum_by}
use denote.Param.Members.{Mut}
use Rattle.std.specs.Fn.{Called, ComputesKey}
use Rattle.std.specs.List.{AllByRecursion}
use Rattle.std.specs.List.Sorted.{IsNonDecreasing, IsPartitionPoint, IsPartitionedBy, IsSortedByKey}
use Rattle.std.specs.Ordering.{int_cmp, is_lt}
use Rattle.std.proofs.lemmas.Bool.{cases_lt}
use Rattle.std.proofs.lemmas.Bool.Decides.{nat_tests}
use Rattle.std.proofs.lemmas.Cmp.{int_cmp_total}
use Rattle.std.proofs.lemmas.Fn.{always_returns_same}
use Rattle.std.proofs.lemmas.Int.{ints}
use Rattle.std.proofs.lemmas.List.Sorted.{length_permutation, ranks_by, sorted_far, sum_by-IsPermutation}
use Rattle.std.proofs.lemmas.List.Sums.{sum_by-cons}
use Rattle.sw_query.specs.Bounds.{is_above, is_below, is_left, is_within}
use Rattle.sw_query.specs.declared.bound.Bound.{Bound}
use Rattle.sw_query.specs.declared.bound.Bound.TheVariants.{Before, After}
use Rattle.sw_spine.specs.Indexes.{CellsRise, IsIndexOf, PlacesOf, placed, places_within}

-- ---- numbers that do not fall, by recursion

abbrev Ascends : List ℕ → Type 0
Ascends [] = Unit {0}
Ascends (x ∷ xs) = AllByRecursion (λ y. x ≤ y) xs × Ascends xs

above-all : (x : ℕ) (xs : List ℕ) → ((j : ℕ) → j < length xs → x ≤ get_or xs j 0) → AllByRecursion (λ y. x ≤ y) xs
above-all x [] h = tt
above-all x (y ∷ ys) h = (h 0 (omega arith), above-all x ys (λ j lt. h (suc j) (omega (arith, lt))))

ascends-from : (xs : List ℕ) → IsNonDecreasing xs → Ascends xs
ascends-from [] h = tt
ascends-from (x ∷ xs) h = (
  above-all x xs (λ j lt. h 0 (suc j) 0 (omega arith) (omega (arith, lt))),
  ascends-from xs (λ i j d le lt. h (suc i) (suc j) d (omega (arith, le)) (omega (arith, lt))),
)

weaker : (m n : ℕ) (xs : List ℕ) → m ≤ n → AllByRecursion (λ y. n ≤ y) xs → AllByRecursion (λ y. m ≤ y) xs
weaker m n [] le h = tt
weaker m n (x ∷ xs) le h = let a = h.0 in (omega (arith, le, a), weaker m n xs le h.1)

-- ---- how often a number stands in a list

abbrev one_at : ℕ → ℕ → ℕ
one_at v x = cond (x == v) 1 0

abbrev times : ℕ → List ℕ → ℕ
times v xs = sum_by (one_at v) xs

one-same : (v : ℕ) → one_at v v ≡ 1
one-same v = grind (arith, nat_tests)

one-above : (v x : ℕ) → v < x → one_at v x ≡ 0
one-above v x lt = grind (arith, nat_tests, lt)

times-none : (v : ℕ) (xs : List ℕ) → AllByRecursion (λ y. suc v ≤ y) xs → times v xs ≡ 0
times-none v [] h = refl
times-none v (x ∷ xs) h =
    let a = h.0 in
    let rest = times-none v xs h.1 in
    let other = one-above v x (omega (arith, a)) in
    omega (arith, sum_by-cons (one_at v) x xs, other, rest)

-- two lists that do not fall and have each number as often are one
pub same-by-times : (xs ys : List ℕ) → Ascends xs → Ascends ys → ((v : ℕ) → times v xs ≡ times v ys) → xs ≡ ys
same-by-times [] [] a b h = refl
same-by-times [] (y ∷ ys) a b h = absurd (let e = h y in omega (arith, e, sum_by-cons (one_at y) y ys, one-same y))
same-by-times (x ∷ xs) [] a b h = absurd (let e = h x in omega (arith, e, sum_by-cons (one_at x) x xs, one-same x))
same-by-times (x ∷ xs) (y ∷ ys) a b h =
    let heads : x ≡ y = ⊎_elim (λ lt. absurd (first x y xs ys lt b.0 (h x))) (λ le. ⊎_elim (λ lt. absurd (first y x ys xs lt a.0 (sym (h y)))) (λ ge. omega (arith, le, ge)) (cases_lt y x)) (cases_lt x y) in
    ap (λ n. n ∷ xs) heads ∙ ap (λ l. y ∷ l) (same-by-times xs ys a.1 b.1 (λ v. rest v x y xs ys heads (h v)))
  where
    first : (x y : ℕ) (xs ys : List ℕ) → x < y → AllByRecursion (λ z. y ≤ z) ys → times x (x ∷ xs) ≡ times x (y ∷ ys) → ⊥
    first x y xs ys lt b e =
        let none = times-none x ys (weaker (suc x) y ys (omega (arith, lt)) b) in
        omega (arith, e, none, sum_by-cons (one_at x) x xs, sum_by-cons (one_at x) y ys, one-same x, one-above x y lt)

    rest : (v x y : ℕ) (xs ys : List ℕ) → x ≡ y → times v (x ∷ xs) ≡ times v (y ∷ ys) → times v xs ≡ times v ys
    rest v x y xs ys heads e =
        let same = ap (one_at v) heads in
        omega (arith, e, same, sum_by-cons (one_at v) x xs, sum_by-cons (one_at v) y ys)

-- ---- the places of pairs that pass a test

-- how often a place stands among the pairs that pass
abbrev times_passed : (ℤ × ℕ → Bool) → ℕ → ℤ × ℕ → ℕ
times_passed q v p = cond (q p) (one_at v p.1) 0

times-passed : (q : ℤ × ℕ → Bool) (v : ℕ) (ps : List (ℤ × ℕ)) → times v (map (λ p. p.1) (filter q ps)) ≡ sum_by (times_passed q v) ps
times-passed q v [] = refl
times-passed q v (p ∷ ps) = by-test (times-passed q v ps) (q p) refl
  where
    by-test : times v (map (λ p. p.1) (filter q ps)) ≡ sum_by (times_passed q v) ps → (b : Bool) → q p ≡ b → times v (map (λ p. p.1) (filter q (p ∷ ps))) ≡ sum_by (times_passed q v) (p ∷ ps)
    by-test rest true is =
        let one : times_passed q v p ≡ one_at v p.1 = rw is refl in
        let all : times v (map (λ p. p.1) (filter q (p ∷ ps))) ≡ times v (p.1 ∷ map (λ p. p.1) (filter q ps)) = rw is refl in
        omega (arith, all, rest, one, sum_by-cons (one_at v) p.1 (map (λ p. p.1) (filter q ps)), sum_by-cons (times_passed q v) p ps)
    by-test rest false is =
        let none : times_passed q v p ≡ 0 = rw is refl in
        let all : times v (map (λ p. p.1) (filter q (p ∷ ps))) ≡ times v (map (λ p. p.1) (filter q ps)) = rw is refl in
        omega (arith, all, rest, none, sum_by-cons (times_passed q v) p ps)

-- whether a pair's cell lies within two bounds
abbrev pub cell_within : Option Bound → Option Bound → ℤ × ℕ → Bool
cell_within lower upper p = is_within lower upper p.0

passed-placed : (lower upper : Option Bound) (n : ℕ) (zs : List ℤ) → map (λ p. p.1) (filter (cell_within lower upper) (placed n zs)) ≡ places_within lower upper n zs
passed-placed lower upper n [] = refl
passed-placed lower upper n (z ∷ zs) = by-test (passed-placed lower upper (n + 1) zs) (is_within lower upper z) refl
  where
    by-test : map (λ p. p.1) (filter (cell_within lower upper) (placed (n + 1) zs)) ≡ places_within lower upper (n + 1) zs → (b : Bool) → is_within lower upper z ≡ b → map (λ p. p.1) (filter (cell_within lower upper) (placed n (z ∷ zs))) ≡ places_within lower upper n (z ∷ zs)
    by-test rest true is = rw is (ap (λ l. n ∷ l) rest)
    by-test rest false is = rw is rest

places-above : (lower upper : Option Bound) (m n : ℕ) (zs : List ℤ) → m ≤ n → AllByRecursion (λ y. m ≤ y) (places_within lower upper n zs)
places-above lower upper m n [] le = tt
places-above lower upper m n (z ∷ zs) le = by-test (places-above lower upper m (n + 1) zs (omega (arith, le))) (is_within lower upper z) refl
  where
    by-test : AllByRecursion (λ y. m ≤ y) (places_within lower upper (n + 1) zs) → (b : Bool) → is_within lower upper z ≡ b → AllByRecursion (λ y. m ≤ y) (places_within lower upper n (z ∷ zs))
    by-test rest true is = rw is (le, rest)
    by-test rest false is = rw is rest

places-ascend : (lower upper : Option Bound) (n : ℕ) (zs : List ℤ) → Ascends (places_within lower upper n zs)
places-ascend lower upper n [] = tt
places-ascend lower upper n (z ∷ zs) = by-test (places-ascend lower upper (n + 1) zs) (is_within lower upper z) refl
  where
    by-test : Ascends (places_within lower upper (n + 1) zs) → (b : Bool) → is_within lower upper z ≡ b → Ascends (places_within lower upper n (z ∷ zs))
    by-test rest true is = rw is (places-above lower upper n (n + 1) zs (omega arith), rest)
    by-test rest false is = rw is rest

-- the places of the pairs within two bounds, put in order
pub places-sorted : (ps : List (ℤ × ℕ)) (lower upper : Option Bound) (found : List ℕ) → IsPermutation (map (λ p. p.1) (filter (cell_within lower upper) ps)) found → IsNonDecreasing found → PlacesOf ps lower upper found
places-sorted ps lower upper found moved up zs of =
    let q = cell_within lower upper in
    same-by-times found (places_within lower upper 0 zs) (ascends-from found up) (places-ascend lower upper 0 zs)
    (λ v.
    sum_by-IsPermutation (one_at v) _ _ moved
    ∙ times-passed q v ps
    ∙ sum_by-IsPermutation (times_passed q v) _ _ of
    ∙ sym (times-passed q v (placed 0 zs))
    ∙ ap (times v) (passed-placed lower upper 0 zs))

-- ---- a part of a list that rises

module _ {X : Type 0} (q : X → Bool) where
  none-passes : (xs : List X) → ((k : ℕ) (d : X) → k < length xs → q (get_or xs k d) ≡ false) → filter q xs ≡ []
  none-passes [] h = refl
  none-passes (x ∷ xs) h = rw (h 0 x (omega arith)) (none-passes xs (λ k d lt. h (suc k) d (omega (arith, lt))))

  -- what passes are the items from one place up to another
  pub passed-part : (xs : List X) (low many : ℕ) → low + many ≤ length xs → ((k : ℕ) (d : X) → k < low → q (get_or xs k d) ≡ false) → ((k : ℕ) (d : X) → low ≤ k → k < low + many → q (get_or xs k d) ≡ true) → ((k : ℕ) (d : X) → low + many ≤ k → k < length xs → q (get_or xs k d) ≡ false) → take many (drop low xs) ≡ filter q xs
  passed-part [] zero zero le under in' over = refl
  passed-part [] zero (suc many) le under in' over = refl
  passed-part [] (suc low) many le under in' over = absurd (omega (arith, le))
  passed-part (x ∷ xs) zero zero le under in' over = sym (none-passes (x ∷ xs) (λ k d lt. over k d (omega arith) lt))
  passed-part (x ∷ xs) zero (suc many) le under in' over =
      rw (in' 0 x (omega arith) (omega arith)) (ap (λ l. x ∷ l) (passed-part xs zero many (omega (arith, le)) (λ k d lt. absurd (omega (arith, lt))) (λ k d lo lt. in' (suc k) d (omega arith) (omega (arith, lt))) (λ k d lo lt. over (suc k) d (omega (arith, lo)) (omega (arith, lt)))))
  passed-part (x ∷ xs) (suc low) many le under in' over =
      rw (under 0 x (omega arith)) (passed-part xs low many (omega (arith, le)) (λ k d lt. under (suc k) d (omega (arith, lt))) (λ k d lo lt. in' (suc k) d (omega (arith, lo)) (omega (arith, lt))) (λ k d lo lt. over (suc k) d (omega (arith, lo)) (omega (arith, lt))))

left-still : (b : Bound) (y z : ℤ) → y ≤ℤ z → is_left b z ≡ true → is_left b y ≡ true
left-still (Before v) y z le h = grind (arith, ints, le, h)
left-still (After v) y z le h = grind (arith, ints, le, h)

-- whether a pair's cell lies under a lower bound
abbrev pub under : Option Bound → ℤ × ℕ → Bool
under lower p = not (is_above lower p.0)

-- whether a pair's cell lies below an upper bound
abbrev pub below : Option Bound → ℤ × ℕ → Bool
below upper p = is_below upper p.0

-- pairs in the order of cells: those under a lower bound come first
pub under-parted : (lower : Option Bound) (ps : List (ℤ × ℕ)) → CellsRise ps → IsPartitionedBy (under lower) ps
under-parted None ps up i j d le lt e = e
under-parted (Some b) ps up i j d le lt e = not-not (is_left b (get_or ps i d).0) (left-still b _ _ (up i j d le lt) (not-back (is_left b (get_or ps j d).0) e))
  where
    not-not : (t : Bool) → t ≡ true → not (not t) ≡ true
    not-not true h = refl
    not-not false h = h

    not-back : (t : Bool) → not (not t) ≡ true → t ≡ true
    not-back true h = refl
    not-back false h = h

-- and those below an upper one
pub below-parted : (upper : Option Bound) (ps : List (ℤ × ℕ)) → CellsRise ps → IsPartitionedBy (below upper) ps
below-parted None ps up i j d le lt e = refl
below-parted (Some b) ps up i j d le lt e = left-still b _ _ (up i j d le lt) e

-- the pairs from the first that is not under the lower bound to the last that is below the upper one
pub between-is : (lower upper : Option Bound) (ps : List (ℤ × ℕ)) (start end last : ℕ) → start ≤ length ps → end ≤ length ps → IsPartitionPoint (λ p. under lower p ≡ true) (λ p. under lower p ≡ false) ps start → IsPartitionPoint (λ p. below upper p ≡ true) (λ p. below upper p ≡ false) ps end → start ≤ last → end ≤ last → ((start < last) → last ≤ end) → take (last - start) (drop start ps) ≡ filter (cell_within lower upper) ps
between-is lower upper ps start end last one two low high s e l =
    passed-part (cell_within lower upper) ps start (last - start) (in-range (cases_lt start last)) (λ k d lt. outside (get_or ps k d) (low.0 k d (omega arith) lt)) (λ k d le lt. inside (get_or ps k d) (low.1 k d le (short k le lt)) (high.0 k d (omega arith) (early k le lt))) (λ k d le lt. past (get_or ps k d) (high.1 k d (omega (arith, s, e, le)) lt))
  where
    in-range : (start < last) ⊎ (last ≤ start) → start + (last - start) ≤ length ps
    in-range h = ⊎_elim (λ lt. let m = l lt in omega (arith, lt, m, two)) (λ le. omega (arith, le, one)) h

    early : (k : ℕ) → start ≤ k → k < start + (last - start) → k < end
    early k le lt = let more : start < last = omega (arith, le, lt) in let m = l more in omega (arith, le, lt, m)

    short : (k : ℕ) → start ≤ k → k < start + (last - start) → k < length ps
    short k le lt = let m = early k le lt in omega (arith, m, two)

    outside : (p : ℤ × ℕ) → not (is_above lower p.0) ≡ true → cell_within lower upper p ≡ false
    outside p h = by-above (is_above lower p.0) refl
      where
        by-above : (b : Bool) → is_above lower p.0 ≡ b → cell_within lower upper p ≡ false
        by-above true is = cc
        by-above false is = rw is refl

    inside : (p : ℤ × ℕ) → not (is_above lower p.0) ≡ false → is_below upper p.0 ≡ true → cell_within lower upper p ≡ true
    inside p h k = by-above (is_above lower p.0) refl
      where
        by-above : (b : Bool) → is_above lower p.0 ≡ b → cell_within lower upper p ≡ true
        by-above true is = rw is k
        by-above false is = cc

    past : (p : ℤ × ℕ) → is_below upper p.0 ≡ false → cell_within lower upper p ≡ false
    past p h = by-above (is_above lower p.0) refl
      where
        by-above : (b : Bool) → is_above lower p.0 ≡ b → cell_within lower upper p ≡ false
        by-above true is = rw is h
        by-above false is = rw is refl

-- ---- pairs after a sort by their cells

not-less : (y z : ℤ) → is_lt (int_cmp z y) ≡ false → y ≤ℤ z
not-less y z h = grind (arith, ints, h)

-- pairs that are sorted by their cells have rising cells
pub cells-rise : (ps : List (ℤ × ℕ)) → IsSortedByKey (λ (p : ℤ × ℕ). p.0) int_cmp ps → CellsRise ps
cells-rise ps up i j d le lt = not-less _ _ (sorted_far (λ (x y : ℤ × ℕ). is_lt (int_cmp x.0 y.0)) (ranks_by int_cmp_total (λ (p : ℤ × ℕ). p.0)) ps up i j d le lt)

placed-length : (n : ℕ) (zs : List ℤ) → length (placed n zs) ≡ length zs
placed-length n [] = refl
placed-length n (z ∷ zs) = ap suc (placed-length (n + 1) zs)

-- an index has a pair for each cell
pub index-length : (zs : List ℤ) (ps : List (ℤ × ℕ)) → IsIndexOf zs ps → length ps ≡ length zs
index-length zs ps of = length_permutation _ _ of ∙ placed-length 0 zs

-- one more cell at the end
pub placed-push : (n : ℕ) (zs : List ℤ) (z : ℤ) → placed n (zs ++ z ∷ []) ≡ placed n zs ++ (z, n + length zs) ∷ []
placed-push n [] z = ap (λ k. (z, k) ∷ []) (omega arith)
placed-push n (y ∷ ys) z = ap (λ l. (y, n) ∷ l) (placed-push (n + 1) ys z ∙ ap (λ k. placed (n + 1) ys ++ (z, k) ∷ []) (omega arith))

-- from the clause `sorted` of a sort by the cells
pub cells-rise-from_sort : {F : Type 0} {g : Mut F (Bor (ℤ × ℕ) × Unit {0}) ℤ} {f : F} (ps : List (ℤ × ℕ)) → ((key : ℤ × ℕ → ℤ) → ComputesKey g key f → IsSortedByKey key int_cmp ps) → ((a : Bor (ℤ × ℕ) × Unit {0}) (r : ℤ) (f' : F) → Called g f a r f' → (r ≡ a.0.now.0) × (f' ≡ f)) → CellsRise ps
cells-rise-from_sort {g = g} {f = f} ps up h = cells-rise ps (up (λ (p : ℤ × ℕ). p.0) (always_returns_same g (λ a r. r ≡ a.0.now.0) f h))
