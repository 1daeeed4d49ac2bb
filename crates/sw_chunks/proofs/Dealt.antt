-- Rows dealt out by their intervals.
use Rattle.std.proofs.Common.{◌≡◌, ◌≢◌, ◌-◌, ◌<◌, ◌≤◌, ◌+◌, ◌==◌, ◌++◌, ℕ, zero, suc, ℤ, pos, true, false, List, [], ◌∷◌, length, get_or, set, take, map, refl, sym, ap, ◌∙◌, arith, cond, Option, None, Some, Bor, All, ◌⊎◌, inl, inr, subst, get_or-set_same, get_or-set_other}
use Rattle.std.specs.Option.{MatchOption, option_map}
use Rattle.std.proofs.lemmas.Bool.{cases_eq}
use Rattle.std.proofs.lemmas.Bool.Decides.{nat_tests}
use Rattle.std.proofs.lemmas.List.{append-nil, take_more, map-append}
use Rattle.std.proofs.lemmas.List.Elements.{All-filter, filter_passes}
use Rattle.sw_table.specs.declared.row.Row.{Row}
use Rattle.sw_query.specs.Scan.{cell_of}
use Rattle.sw_set.specs.Shelf.{AreaState, Rises, key_of, lies_within}
use Rattle.sw_kernel.specs.Replay.{loaded}
use Rattle.sw_set.proofs.Replying.KeyOrder.{rises-filter}
use Rattle.sw_chunks.specs.Cuts.{Interval, RiseAbove, intervals, intervals_from, lies_in, place_in}
use Rattle.sw_chunks.specs.Heads.{opened_area, part_of}
use Rattle.sw_chunks.specs.Places.{owner_of, owners_of}
use Rattle.sw_chunks.proofs.Cutting.{one_interval}
use Rattle.sw_chunks.proofs.Found.{ends-at, ends-none, starts-at, starts-none}
use Rattle.sw_chunks.proofs.Routed.{filter-push}

long-from : (from : Option ℤ) (cuts : List ℤ) → length (intervals_from from cuts) ≡ suc (length cuts)
long-from from [] = refl
long-from from (c ∷ cs) = ap suc (long-from (Some c) cs)

-- there is one interval more than cuts
pub long-intervals : (cuts : List ℤ) → length (intervals cuts) ≡ length cuts + 1
long-intervals cuts = let e = long-from None cuts in omega (arith, e)

same-number : (j k : ℕ) → j ≡ k → (j == k) ≡ true
same-number j k e = grind (arith, nat_tests, e)

other-number : (j k : ℕ) → j ≢ k → (j == k) ≡ false
other-number j k ne = grind (arith, nat_tests, ne)

-- the rows of an interval, with one row more
part-more : (a : ℕ) (rows : List Row) (n : ℕ) (d : Row) (i : Interval) → n < length rows → part_of a (take (n + 1) rows) i ≡ part_of a (take n rows) i ++ cond (lies_within a i.0 i.1 (get_or rows n d)) (get_or rows n d ∷ []) []
part-more a rows n d i lt = ap (λ l. part_of a l i) (take_more rows n d lt) ∙ filter-push (lies_within a i.0 i.1) (take n rows) (get_or rows n d)

-- it lies in the interval of its place alone
lies-at : (a : ℕ) (cuts : List ℤ) (r : Row) (k : ℕ) (i : Interval) → RiseAbove None cuts → k ≤ length cuts → lies_in (cell_of a r) (get_or (intervals cuts) k i) ≡ (k == place_in cuts (cell_of a r))
lies-at a cuts r k i rise le = let e = long-intervals cuts in (one_interval cuts (cell_of a r) rise).1 k i (omega (arith, e, le))

part-there : (a : ℕ) (cuts : List ℤ) (rows : List Row) (n : ℕ) (d : Row) (k : ℕ) (i : Interval) → RiseAbove None cuts → n < length rows → k ≤ length cuts → k ≡ place_in cuts (cell_of a (get_or rows n d)) → part_of a (take n rows) (get_or (intervals cuts) k i) ++ get_or rows n d ∷ [] ≡ part_of a (take (n + 1) rows) (get_or (intervals cuts) k i)
part-there a cuts rows n d k i rise lt le at = sym (part-more a rows n d (get_or (intervals cuts) k i) lt ∙ ap (λ b. part_of a (take n rows) (get_or (intervals cuts) k i) ++ cond b (get_or rows n d ∷ []) []) (lies-at a cuts (get_or rows n d) k i rise le ∙ same-number k (place_in cuts (cell_of a (get_or rows n d))) at))

part-elsewhere : (a : ℕ) (cuts : List ℤ) (rows : List Row) (n : ℕ) (d : Row) (k : ℕ) (i : Interval) → RiseAbove None cuts → n < length rows → k ≤ length cuts → k ≢ place_in cuts (cell_of a (get_or rows n d)) → part_of a (take n rows) (get_or (intervals cuts) k i) ≡ part_of a (take (n + 1) rows) (get_or (intervals cuts) k i)
part-elsewhere a cuts rows n d k i rise lt le ne = sym (part-more a rows n d (get_or (intervals cuts) k i) lt ∙ ap (λ b. part_of a (take n rows) (get_or (intervals cuts) k i) ++ cond b (get_or rows n d ∷ []) []) (lies-at a cuts (get_or rows n d) k i rise le ∙ other-number k (place_in cuts (cell_of a (get_or rows n d))) ne) ∙ append-nil (part_of a (take n rows) (get_or (intervals cuts) k i)))

-- without ends it has all rows
whole-part : (a : ℕ) (rows : List Row) → part_of a rows (None, None) ≡ rows
whole-part a [] = refl
whole-part a (r ∷ rows) = ap (λ l. r ∷ l) (whole-part a rows)

-- so all rows are the one part where there are no cuts
pub one-part : {X : Type 0} (items : X → List Row) (a : ℕ) (cuts : List ℤ) (x : X) (k : ℕ) (d : X) (i : Interval) → length cuts ≡ 0 → k ≤ length cuts → items (get_or (x ∷ []) k d) ≡ part_of a (items x) (get_or (intervals cuts) k i)
one-part items a [] x zero d i e le = sym (whole-part a (items x))
one-part items a [] x (suc k) d i e le = absurd (omega (arith, le))
one-part items a (c ∷ cs) x k d i e le = absurd (omega (arith, e))

-- the place of a row is one of the parts
pub place-below : (cuts : List ℤ) (x : ℤ) → RiseAbove None cuts → place_in cuts x < length cuts + 1
place-below cuts x rise = let e = long-intervals cuts in let lt = (one_interval cuts x rise).0 in omega (arith, e, lt)

-- one row more, at the end of the part of its place
pub dealt-more : {X : Type 0} (items : X → List Row) (a : ℕ) (cuts : List ℤ) (rows : List Row) (n : ℕ) (r : Row) (xs : List X) (p : ℕ) (x e : X)
    → RiseAbove None cuts → n < length rows → length xs ≡ length cuts + 1 → p ≡ place_in cuts (cell_of a (get_or rows n r)) → items x ≡ items (get_or xs p e) ++ get_or rows n r ∷ []
    → ((k : ℕ) (d : X) (i : Interval) → k ≤ length cuts → items (get_or xs k d) ≡ part_of a (take n rows) (get_or (intervals cuts) k i))
    → (k : ℕ) (d : X) (i : Interval) → k ≤ length cuts → items (get_or (set xs p x) k d) ≡ part_of a (take (n + 1) rows) (get_or (intervals cuts) k i)
dealt-more items a cuts rows n r xs p x e rise lt long at is h k d i le = by (cases_eq k p)
  where
    by : (k ≡ p) ⊎ (k ≡ p → ⊥) → items (get_or (set xs p x) k d) ≡ part_of a (take (n + 1) rows) (get_or (intervals cuts) k i)
    by (inl same) =
        ap (λ j. items (get_or (set xs p x) j d)) same ∙ ap items (get_or-set_same xs p x d (omega (arith, long, le, same))) ∙ is
        ∙ ap (λ j. items (get_or xs j e) ++ get_or rows n r ∷ []) (sym same) ∙ ap (λ l. l ++ get_or rows n r ∷ []) (h k e i le) ∙ part-there a cuts rows n r k i rise lt le (same ∙ at)
    by (inr other) = ap items (get_or-set_other xs p k x d other) ∙ h k d i le ∙ part-elsewhere a cuts rows n r k i rise lt le (λ q. other (q ∙ sym at))

-- the owners of the rows before a place, and one more
pub owners-next : (a : ℕ) (cuts : List ℤ) (rows : List Row) (n : ℕ) (d : Row) (os : List (ℕ × ℕ)) (o : ℕ × ℕ) → n < length rows → os ≡ owners_of a cuts (take n rows) → o ≡ owner_of a cuts (get_or rows n d) → os ++ o ∷ [] ≡ owners_of a cuts (take (n + 1) rows)
owners-next a cuts rows n d os o lt is at =
    ap (λ l. l ++ o ∷ []) is ∙ ap (λ x. owners_of a cuts (take n rows) ++ x ∷ []) at
    ∙ sym (map-append (owner_of a cuts) (take n rows) (get_or rows n d ∷ [])) ∙ ap (map (owner_of a cuts)) (sym (take_more rows n d lt))

-- ---- areas of the parts
pub part-keys : (a : ℕ) (rows : List Row) (i : Interval) (P : Row → Type 0) → All P rows → All P (part_of a rows i)
part-keys a rows i P h = All-filter (lies_within a i.0 i.1) P rows h

-- the rows of an interval rise by key where all rows do
pub part-rises : (a : ℕ) (rows : List Row) (i : Interval) → Rises key_of rows → Rises key_of (part_of a rows i)
part-rises a rows i r = rises-filter key_of (lies_within a i.0 i.1) rows r

-- each row of the part of an interval lies in it
pub part-within : (a : ℕ) (rows : List Row) (i : Interval) → All (λ (r : Row). lies_within a i.0 i.1 r ≡ true) (part_of a rows i)
part-within a rows i = filter_passes (lies_within a i.0 i.1) rows

-- one interval more
pub opened-more : (a : ℕ) (rows : List Row) (cuts : List ℤ) (k : ℕ) (d : Interval) (xs : List AreaState) (x : AreaState) → k < length cuts + 1 → xs ≡ map (opened_area a rows) (take k (intervals cuts)) → x ≡ opened_area a rows (get_or (intervals cuts) k d) → xs ++ x ∷ [] ≡ map (opened_area a rows) (take (k + 1) (intervals cuts))
opened-more a rows cuts k d xs x lt is at =
    let e = long-intervals cuts in
    ap (λ l. l ++ x ∷ []) is ∙ ap (λ y. map (opened_area a rows) (take k (intervals cuts)) ++ y ∷ []) at
    ∙ sym (map-append (opened_area a rows) (take k (intervals cuts)) (get_or (intervals cuts) k d ∷ [])) ∙ ap (map (opened_area a rows)) (sym (take_more (intervals cuts) k d (omega (arith, e, lt))))

-- ---- the ends of an interval
-- what stands at a place of the cuts is the end of the interval there
pub looked-up : (cuts : List ℤ) (k : ℕ) (o : Option (Bor ℤ)) (i : Interval) → k ≤ length cuts → MatchOption o (length cuts ≤ k) (λ x. (k < length cuts) × ((d : ℤ) → x.now ≡ get_or cuts k d)) → option_map (λ (x : Bor ℤ). x.now) o ≡ (get_or (intervals cuts) k i).1
looked-up cuts k None i le past = sym (ends-none cuts k i (omega (arith, le, past)))
looked-up cuts k (Some x) i le at = ap Some (at.1 (pos 0)) ∙ sym (ends-at cuts k i at.0)

-- the end of an interval is where the next one starts
pub starts-next : (cuts : List ℤ) (k : ℕ) (i : Interval) → k + 1 ≤ length cuts → (get_or (intervals cuts) k i).1 ≡ (get_or (intervals cuts) (k + 1) i).0
starts-next cuts k i le = ends-at cuts k i (omega (arith, le)) ∙ sym (starts-at cuts k i (omega (arith, le)))

-- an interval that is not the first starts where the one before it ends
pub starts-after : (cuts : List ℤ) (j k : ℕ) (i : Interval) → 1 ≤ k → j ≡ k - 1 → k ≤ length cuts → (get_or (intervals cuts) j i).1 ≡ (get_or (intervals cuts) k i).0
starts-after cuts j k i one e le = let next : j + 1 ≡ k = omega (arith, one, e) in starts-next cuts j i (omega (arith, next, le)) ∙ ap (λ (n : ℕ). (get_or (intervals cuts) n i).0) next

-- the first interval has no start
pub no-start : (cuts : List ℤ) (k : ℕ) (i : Interval) → (1 ≤ k → ⊥) → None ≡ (get_or (intervals cuts) k i).0
no-start cuts zero i h = sym (starts-none cuts i)
no-start cuts (suc k) i h = absurd (h (omega arith))

-- ---- an area opened with the rows of an interval
pub part-ends : (a : ℕ) (rows : List Row) (i : Interval) (from below : Option ℤ) (xs : List Row) → from ≡ i.0 → below ≡ i.1 → xs ≡ part_of a rows i → All (λ (r : Row). lies_within a from below r ≡ true) xs
part-ends a rows i from below xs f b e =
    subst (λ (l : List Row). All (λ (r : Row). lies_within a from below r ≡ true) l) (sym e)
    (subst (λ (v : Option ℤ). All (λ (r : Row). lies_within a v below r ≡ true) (part_of a rows i)) (sym f)
    (subst (λ (v : Option ℤ). All (λ (r : Row). lies_within a i.0 v r ≡ true) (part_of a rows i)) (sym b) (part-within a rows i)))

abbrev area-with : ℕ → Option ℤ → Option ℤ → List Row → AreaState
area-with a from below xs = record { attribute = a; from = from; below = below; inbox = []; spare = 0; tape = loaded xs ∷ []; boxes = [] }

-- an area with an interval's ends and its rows is the area that is opened for it
pub area-opened : (a : ℕ) (rows : List Row) (i : Interval) (from below : Option ℤ) (xs : List Row) → from ≡ i.0 → below ≡ i.1 → xs ≡ part_of a rows i → area-with a from below xs ≡ opened_area a rows i
area-opened a rows i from below xs f b e = ap (λ v. area-with a v below xs) f ∙ ap (λ v. area-with a i.0 v xs) b ∙ ap (λ v. area-with a i.0 i.1 v) e
