-- Rows put together by place are the rows.
use Rattle.std.proofs.Common.{◌≡◌, ◌∙◌, ap, sym, refl, subst, ℕ, suc, ◌+◌, ◌<◌, ◌≤◌, Bool, true, false, List, [], ◌∷◌, map, length, get_or, slice_range, All, IsPermutation, ℤ, pos, Option, Some, None, inl, inr, arith}
use Rattle.std.specs.List.Sorted.{IsNonDecreasingBy}
use Rattle.std.proofs.lemmas.List.{length-map, get_or-map}
use Rattle.std.proofs.lemmas.List.Elements.{Contains-get_or}
use Rattle.std.proofs.lemmas.List.Sorted.{IsPermutation-map, IsPermutation-sym}
use Rattle.sw_query.specs.declared.reply.ReplyRow.{ReplyRow}
use Rattle.sw_table.specs.declared.row.Row.{Row}
use Rattle.sw_query.specs.Scan.{cell_of, column, projected}
use Rattle.sw_kernel.proofs.Members.{Mem, mem-from_contains, mem-permutation}
use Rattle.sw_map.specs.Held.{Held, blank}
use Rattle.sw_table.specs.Kept.{kept}
use Rattle.sw_set.specs.Choice.{IsColumn, IsInside, chosen, column_at, placed, row_in, value_in}
use Rattle.sw_set.specs.Collected.{AreInKeyOrder}
use Rattle.sw_set.specs.declared.reply.window.Column.{Column}
use Rattle.sw_set.proofs.Replying.Stock.{side-long}
use Rattle.sw_set.proofs.Replying.Told.{chosen-map, range-at, range-long}

-- ---- where columns reach

-- a column of a value of each row has at least so many places where there are so many rows
pub column-inside : (ms : List Held) (c : Column) (f : Row → ℤ) (rows : List Row) (n : ℕ) → IsColumn ms c (map f rows) → n ≤ length rows → IsInside ms n c
column-inside ms c f rows n is le =
    let long = sym (side-long c.side (get_or ms c.at blank)) ∙ ap length is.values_are ∙ length-map rows f in
    record { box = is.inside; places = omega (arith, long) }

-- the value at a place of a column of rows is that of the row there
pub column-value : (ms : List Held) (c : Column) (f : Row → ℤ) (rows : List Row) (p : ℕ) (d : Row) → IsColumn ms c (map f rows) → p < length rows → value_in ms c p ≡ f (get_or rows p d)
column-value ms c f rows p d is lt = ap (λ (v : List ℤ). get_or v p (pos 0)) is.values_are ∙ get_or-map f rows p d (pos 0) lt

-- ---- places of what was found

mem-kept : {X : Type 0} (bs : List Bool) (xs : List X) (x : X) → Mem x (kept bs xs) → Mem x xs
mem-kept [] xs x m = absurd m
mem-kept (b ∷ bs) [] x m = absurd m
mem-kept (true ∷ bs) (y ∷ ys) x (inl e) = inl e
mem-kept (true ∷ bs) (y ∷ ys) x (inr m) = inr (mem-kept bs ys x m)
mem-kept (false ∷ bs) (y ∷ ys) x m = inr (mem-kept bs ys x m)

mem-chosen : {X : Type 0} (o : Option (List Bool)) (xs : List X) (x : X) → Mem x (chosen o xs) → Mem x xs
mem-chosen None xs x m = m
mem-chosen (Some bs) xs x m = mem-kept bs xs x m

placed-below : (n : ℕ) (ks : List ℤ) (p : ℕ × ℕ) → Mem p (placed n ks) → p.1 < n + length ks
placed-below n [] p m = absurd m
placed-below n (k ∷ ks) p (inl e) = let q : p.1 ≡ n = ap (λ (v : ℕ × ℕ). v.1) e in omega (arith, q)
placed-below n (k ∷ ks) p (inr m) = let h = placed-below (suc n) ks p m in omega (arith, h)

-- each place that was found is below the end of the numbers, however the found ones are ordered
pub found-below : (o : Option (List Bool)) (n : ℕ) (ks : List ℤ) (found sorted : List (ℕ × ℕ)) (k : ℕ) (d : ℕ × ℕ) → found ≡ chosen o (placed n ks) → IsPermutation found sorted → k < length sorted → (get_or sorted k d).1 < n + length ks
found-below o n ks found sorted k d is moved lt =
    let p = get_or sorted k d in
    let m : Mem p sorted = mem-from_contains sorted p (Contains-get_or sorted k d lt) in
    let f : Mem p (chosen o (placed n ks)) = subst (λ (v : List (ℕ × ℕ)). Mem p v) is (mem-permutation sorted found (IsPermutation-sym found sorted moved) p m) in
    placed-below n ks p (mem-chosen o (placed n ks) p f)

-- ---- the rows

-- two functions that are alike on each item of a list map it to the same list
pub maps-same : {A B : Type 0} (f g : A → B) (xs : List A) → ((k : ℕ) (d : A) → k < length xs → f (get_or xs k d) ≡ g (get_or xs k d)) → map f xs ≡ map g xs
maps-same f g [] h = refl
maps-same f g (x ∷ xs) h =
    let first = h 0 x (omega arith) in
    let rest = maps-same f g xs (λ k d l. h (suc k) d (omega arith)) in
    cc

-- where columns have the cells of rows from a place on, what is put together there is those rows, projected
pub rows-placed : (ms : List Held) (cs : List Column) (names : List ℕ) (n : ℕ) (xs : List Row) → ((j : ℕ) (d : Row) → j < length xs → (k a : ℕ) → k < length names → value_in ms (column_at cs (get_or names k a)) (n + j) ≡ cell_of (get_or names k a) (get_or xs j d)) → map (row_in ms cs names) (placed n (map (λ (r : Row). pos r.key) xs)) ≡ map (projected names) xs
rows-placed ms cs names n [] h = refl
rows-placed ms cs names n (x ∷ xs) h =
    let cells = maps-same (λ a. value_in ms (column_at cs a) n) (λ a. cell_of a x) names (λ k a l. ap (value_in ms (column_at cs (get_or names k a))) (let z : n ≡ n + 0 = omega arith in z) ∙ h 0 x (omega arith) k a l) in
    let rest = rows-placed ms cs names (suc n) xs (λ j d l k a m. ap (value_in ms (column_at cs (get_or names k a))) (let z : suc n + j ≡ n + suc j = omega arith in z) ∙ h (suc j) d (omega arith) k a m) in
    ap (λ (v : List ℤ). (let r : ReplyRow = record { key = x.key; cells = v } in r) ∷ map (row_in ms cs names) (placed (suc n) (map (λ (r : Row). pos r.key) xs))) cells ∙ ap (λ (v : List ReplyRow). projected names x ∷ v) rest

-- what is put together of the places found, as they are in the range
pub rows-found : (ms : List Held) (cs : List Column) (names : List ℕ) (rows : List Row) (o : Option (List Bool)) (from upto : ℕ) → All (λ (a : ℕ). IsColumn ms (column_at cs a) (column a rows)) names → from ≤ upto → upto ≤ length rows → map (row_in ms cs names) (chosen o (placed from (map (λ (r : Row). pos r.key) (slice_range rows from upto)))) ≡ map (projected names) (chosen o (slice_range rows from upto))
rows-found ms cs names rows o from upto are le within =
    let range = slice_range rows from upto in
    let long = range-long rows from upto le within in
    sym (chosen-map (row_in ms cs names) o (placed from (map (λ (r : Row). pos r.key) range)))
    ∙ ap (chosen o) (rows-placed ms cs names from range (λ j d l k a m. column-value ms (column_at cs (get_or names k a)) (cell_of (get_or names k a)) rows (from + j) d (are k a m) (omega (arith, long)) ∙ ap (cell_of (get_or names k a)) (sym (range-at rows from upto j d (omega (arith, long))))))
    ∙ chosen-map (projected names) o range

-- put together by the places that were found, sorted by key, are the chosen rows of the range in key order
pub in-key-order : (ms : List Held) (cs : List Column) (names : List ℕ) (rows : List Row) (o : Option (List Bool)) (from upto : ℕ) (found sorted : List (ℕ × ℕ)) (told : List ReplyRow) → All (λ (a : ℕ). IsColumn ms (column_at cs a) (column a rows)) names → from ≤ upto → upto ≤ length rows → found ≡ chosen o (placed from (map (λ (r : Row). pos r.key) (slice_range rows from upto))) → IsPermutation found sorted → IsNonDecreasingBy (λ (p : ℕ × ℕ). p.0) sorted → told ≡ map (row_in ms cs names) sorted → AreInKeyOrder (map (projected names) (chosen o (slice_range rows from upto))) told
in-key-order ms cs names rows o from upto found sorted told are le within is moved rise was =
    let same = ap (map (row_in ms cs names)) is ∙ rows-found ms cs names rows o from upto are le within in
    record {
      moved = subst (λ (v : List ReplyRow). IsPermutation v told) same (subst (λ (v : List ReplyRow). IsPermutation (map (row_in ms cs names) found) v) (sym was) (IsPermutation-map (row_in ms cs names) found sorted moved));
      sorted = subst (λ (v : List ReplyRow). IsNonDecreasingBy (λ (r : ReplyRow). r.key) v) (sym was) (λ i j d l m. keys-rise i j d l (omega (arith, m, length-map sorted (row_in ms cs names))));
    }
  where
    key-at : (i : ℕ) (d : ReplyRow) → i < length sorted → (get_or (map (row_in ms cs names) sorted) i d).key ≡ (get_or sorted i (0, 0)).0
    key-at i d lt = ap (λ (r : ReplyRow). r.key) (get_or-map (row_in ms cs names) sorted i (0, 0) d lt)

    keys-rise : (i j : ℕ) (d : ReplyRow) → i ≤ j → j < length sorted → (get_or (map (row_in ms cs names) sorted) i d).key ≤ (get_or (map (row_in ms cs names) sorted) j d).key
    keys-rise i j d l m = omega (arith, key-at i d (omega arith), key-at j d m, rise i j (0, 0) l m)
