-- One more place of a scan over the rows that are live.
use Rattle.std.proofs.Common.{◌≡◌, ◌∙◌, ◌&&◌, ap, sym, refl, ℕ, ◌+◌, ◌<◌, ◌≤◌, Bool, true, false, cond, List, [], ◌∷◌, ◌++◌, map, filter, length, get_or, take, ℤ, pos, ◌+ℤ◌, Option, Some, append-nil}
use Rattle.std.proofs.lemmas.List.{length_push, map-append, take_all}
use Rattle.std.proofs.lemmas.List.Elements.{filter-append}
use Rattle.std.proofs.lemmas.List.Sums.{fold-append}
use Rattle.std.specs.Int.{int_min, int_max}
use Rattle.sw_query.specs.Scan.{cell_of, column, least, lesser_with, greatest, larger_with, is_match, matching, meets_all, projected, total}
use Rattle.sw_table.specs.declared.row.Row.{Row}
use Rattle.sw_query.specs.declared.query.Cond.{Cond}
use Rattle.sw_query.specs.declared.reply.ReplyRow.{ReplyRow}
use Rattle.sw_table.specs.Kept.{kept}
use Rattle.sw_table.specs.Live.{key_of}
use Rattle.sw_table.proofs.LiveLaws.{kept-nil, kept-step}

-- the live rows of the first i places that meet the conditions
abbrev pub found_in : List Cond → List Bool → List Row → ℕ → List Row
found_in cs fs xs i = matching cs (kept fs (take i xs))

filter-one : {X : Type 0} (p : X → Bool) (b : Bool) (x : X) → filter p (cond b (x ∷ []) []) ≡ cond (b && p x) (x ∷ []) []
filter-one p true x = refl
filter-one p false x = refl

-- before the first place nothing is found
pub found-none : (cs : List Cond) (fs : List Bool) (xs : List Row) → found_in cs fs xs 0 ≡ []
found-none cs fs xs = ap (matching cs) (kept-nil fs)

-- behind the last place all matching rows are
pub found-all : (cs : List Cond) (fs : List Bool) (xs : List Row) (n : ℕ) → length xs ≤ n → found_in cs fs xs n ≡ matching cs (kept fs xs)
found-all cs fs xs n le = ap (λ v. matching cs (kept fs v)) (take_all n xs le)

module _ (cs : List Cond) (fs : List Bool) (xs : List Row) (i : ℕ) (d : Row) (lt : i < length xs) where
  found-more : found_in cs fs xs (i + 1) ≡ found_in cs fs xs i ++ cond (is_match cs fs xs i d) (get_or xs i d ∷ []) []
  found-more =
      ap (matching cs) (kept-step fs xs i d lt) ∙ filter-append (meets_all cs) (kept fs (take i xs)) (cond (get_or fs i false) (get_or xs i d ∷ []) [])
      ∙ ap (λ v. found_in cs fs xs i ++ v) (filter-one (meets_all cs) (get_or fs i false) (get_or xs i d))

  -- a row that matches at the place is found behind those before it
  pub found-yes : is_match cs fs xs i d ≡ true → found_in cs fs xs (i + 1) ≡ found_in cs fs xs i ++ get_or xs i d ∷ []
  found-yes e = found-more ∙ ap (λ b. found_in cs fs xs i ++ cond b (get_or xs i d ∷ []) []) e

  -- a row that doesn't match at the place leaves what is found
  pub found-no : is_match cs fs xs i d ≡ false → found_in cs fs xs (i + 1) ≡ found_in cs fs xs i
  found-no e = found-more ∙ ap (λ b. found_in cs fs xs i ++ cond b (get_or xs i d ∷ []) []) e ∙ append-nil _

-- ---- one more row of a sum, of the least, of the greatest

column-end : (a : ℕ) (rs : List Row) (r : Row) → column a (rs ++ r ∷ []) ≡ column a rs ++ cell_of a r ∷ []
column-end a rs r = map-append (cell_of a) rs (r ∷ [])

-- a row more adds its cell to the sum
pub total-end : (a : ℕ) (rs : List Row) (r : Row) → total (column a (rs ++ r ∷ [])) ≡ total (column a rs) +ℤ cell_of a r
total-end a rs r = ap total (column-end a rs r) ∙ fold-append ◌+ℤ◌ (pos 0) (column a rs) (cell_of a r ∷ [])

-- the least of a list with one more
pub least-of : (zs : List ℤ) (z : ℤ) → least (zs ++ z ∷ []) ≡ Some (lesser_with (least zs) z)
least-of [] z = refl
least-of (y ∷ zs) z = ap Some (fold-append int_min y zs (z ∷ []))

-- the greatest of a list with one more
pub greatest-of : (zs : List ℤ) (z : ℤ) → greatest (zs ++ z ∷ []) ≡ Some (larger_with (greatest zs) z)
greatest-of [] z = refl
greatest-of (y ∷ zs) z = ap Some (fold-append int_max y zs (z ∷ []))

-- the least cell with a row more
pub least-end : (a : ℕ) (rs : List Row) (r : Row) → least (column a (rs ++ r ∷ [])) ≡ Some (lesser_with (least (column a rs)) (cell_of a r))
least-end a rs r = ap least (column-end a rs r) ∙ least-of (column a rs) (cell_of a r)

-- the greatest cell with a row more
pub greatest-end : (a : ℕ) (rs : List Row) (r : Row) → greatest (column a (rs ++ r ∷ [])) ≡ Some (larger_with (greatest (column a rs)) (cell_of a r))
greatest-end a rs r = ap greatest (column-end a rs r) ∙ greatest-of (column a rs) (cell_of a r)

-- what is shown of a row more stands at the end
pub shown-end : (names : List ℕ) (rs : List Row) (r : Row) → map (projected names) (rs ++ r ∷ []) ≡ map (projected names) rs ++ projected names r ∷ []
shown-end names rs r = map-append (projected names) rs (r ∷ [])

-- ---- a step of each loop, where the row at the place is found and where it isn't

module _ (cs : List Cond) (fs : List Bool) (xs : List Row) (i : ℕ) (d : Row) (lt : i < length xs) (yes : is_match cs fs xs i d ≡ true) where
  more-found : found_in cs fs xs (i + 1) ≡ found_in cs fs xs i ++ get_or xs i d ∷ []
  more-found = found-yes cs fs xs i d lt yes

  -- the count is one more, with the row at the place found
  pub count-yes : (n : ℕ) → n ≡ length (found_in cs fs xs i) → n + 1 ≡ length (found_in cs fs xs (i + 1))
  count-yes n so_far = ap (λ k. k + 1) so_far ∙ sym (length_push (found_in cs fs xs i) (get_or xs i d)) ∙ sym (ap length more-found)

  -- the sum has the cell of the found row added
  pub total-yes : (a : ℕ) (s z : ℤ) → z ≡ cell_of a (get_or xs i d) → s ≡ total (column a (found_in cs fs xs i)) → s +ℤ z ≡ total (column a (found_in cs fs xs (i + 1)))
  total-yes a s z is so_far =
      ap (λ v. v +ℤ z) so_far ∙ ap (λ v. total (column a (found_in cs fs xs i)) +ℤ v) is
      ∙ sym (total-end a (found_in cs fs xs i) (get_or xs i d)) ∙ sym (ap (λ v. total (column a v)) more-found)

  -- the least takes in the cell of the found row
  pub least-yes : (a : ℕ) (f : Option ℤ) (z : ℤ) → z ≡ cell_of a (get_or xs i d) → f ≡ least (column a (found_in cs fs xs i)) → Some (lesser_with f z) ≡ least (column a (found_in cs fs xs (i + 1)))
  least-yes a f z is so_far =
      ap (λ v. Some (lesser_with v z)) so_far ∙ ap (λ v. Some (lesser_with (least (column a (found_in cs fs xs i))) v)) is
      ∙ sym (least-end a (found_in cs fs xs i) (get_or xs i d)) ∙ sym (ap (λ v. least (column a v)) more-found)

  -- the greatest takes in the cell of the found row
  pub greatest-yes : (a : ℕ) (f : Option ℤ) (z : ℤ) → z ≡ cell_of a (get_or xs i d) → f ≡ greatest (column a (found_in cs fs xs i)) → Some (larger_with f z) ≡ greatest (column a (found_in cs fs xs (i + 1)))
  greatest-yes a f z is so_far =
      ap (λ v. Some (larger_with v z)) so_far ∙ ap (λ v. Some (larger_with (greatest (column a (found_in cs fs xs i))) v)) is
      ∙ sym (greatest-end a (found_in cs fs xs i) (get_or xs i d)) ∙ sym (ap (λ v. greatest (column a v)) more-found)

  -- what is shown has the found row at its end
  pub shown-yes : (names : List ℕ) (ys : List ReplyRow) (r : Row) → r ≡ get_or xs i d → ys ≡ map (projected names) (found_in cs fs xs i) → ys ++ projected names r ∷ [] ≡ map (projected names) (found_in cs fs xs (i + 1))
  shown-yes names ys r is so_far =
      ap (λ v. v ++ projected names r ∷ []) so_far ∙ ap (λ v. map (projected names) (found_in cs fs xs i) ++ projected names v ∷ []) is
      ∙ sym (shown-end names (found_in cs fs xs i) (get_or xs i d)) ∙ sym (ap (map (projected names)) more-found)

  -- the keys have that of the found row at their end
  pub keys-yes : (ks : List ℕ) (r : Row) → r ≡ get_or xs i d → ks ≡ map key_of (found_in cs fs xs i) → ks ++ r.key ∷ [] ≡ map key_of (found_in cs fs xs (i + 1))
  keys-yes ks r is so_far =
      ap (λ v. v ++ r.key ∷ []) so_far ∙ ap (λ (v : Row). map key_of (found_in cs fs xs i) ++ v.key ∷ []) is
      ∙ sym (map-append key_of (found_in cs fs xs i) (get_or xs i d ∷ [])) ∙ sym (ap (map key_of) more-found)
