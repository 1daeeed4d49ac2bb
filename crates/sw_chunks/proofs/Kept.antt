-- What a head keeps of the areas of its rows: nothing without cuts.
use Rattle.std.proofs.Common.{◌≡◌, ◌≢◌, ◌==◌, cond, Bool, true, false, ℕ, ℤ, List, [], ◌∷◌, fold, map, length, take, refl, sym, ap, ◌∙◌, arith}
use Rattle.std.proofs.lemmas.List.{take_all}
use Rattle.sw_table.specs.declared.row.Row.{Row}
use Rattle.sw_table.specs.declared.row.Update.{Update}
use Rattle.sw_table.specs.declared.row.Update.TheVariants as update
use Rattle.sw_set.specs.Shelf.{Rises, came_then, key_of}
use Rattle.sw_chunks.specs.Places.{find_place, owners_added, owners_kept, owners_of, owners_then, place_by}
use Rattle.sw_chunks.proofs.Receipt.{owners-before, owners-more, owners-rise}

-- without cuts no owners are kept
pub kept_none : (a : ℕ) (cuts : List ℤ) (rows : List Row) → length cuts ≡ 0 → owners_kept a cuts rows ≡ []
kept_none a [] rows e = refl
kept_none a (c ∷ cs) rows e = absurd (omega (arith, e))

-- with cuts the owners of all rows are kept
pub kept_some : (a : ℕ) (cuts : List ℤ) (rows : List Row) → length cuts ≢ 0 → owners_kept a cuts rows ≡ owners_of a cuts rows
kept_some a [] rows e = absurd (e refl)
kept_some a (c ∷ cs) rows e = refl

-- without cuts updates add no owners
pub added_none : (a : ℕ) (cuts : List ℤ) (os : List (ℕ × ℕ)) (vs : List Update) → length cuts ≡ 0 → owners_added a cuts os vs ≡ os
added_none a [] os vs e = refl
added_none a (c ∷ cs) os vs e = absurd (omega (arith, e))

-- with cuts updates add the owners of the rows that come
pub added_some : (a : ℕ) (cuts : List ℤ) (os : List (ℕ × ℕ)) (vs : List Update) → length cuts ≢ 0 → owners_added a cuts os vs ≡ fold (owners_then a cuts) os vs
added_some a [] os vs e = absurd (e refl)
added_some a (c ∷ cs) os vs e = refl

-- what is kept after updates is what is kept of all rows
pub kept-more : (a : ℕ) (cuts : List ℤ) (rows : List Row) (vs : List Update) → owners_added a cuts (owners_kept a cuts rows) vs ≡ owners_kept a cuts (fold came_then rows vs)
kept-more a [] rows vs = refl
kept-more a (c ∷ cs) rows vs = owners-more a (c ∷ cs) rows vs

-- the owners that were kept stand before those that updates add
pub kept-before : (a : ℕ) (cuts : List ℤ) (os : List (ℕ × ℕ)) (vs : List Update) → take (length os) (owners_added a cuts os vs) ≡ os
kept-before a [] os vs = take_all (length os) os (omega arith)
kept-before a (c ∷ cs) os vs = owners-before a (c ∷ cs) os vs

-- the owners that are kept of rows with rising keys rise by key
pub kept-rise : (a : ℕ) (cuts : List ℤ) (rows : List Row) → Rises key_of rows → Rises (λ (o : ℕ × ℕ). o.0) (owners_kept a cuts rows)
kept-rise a [] rows r = tt
kept-rise a (c ∷ cs) rows r = owners-rise a (c ∷ cs) rows r

-- without cuts each row lies in the first area
first-place : (a key : ℕ) (rows : List Row) → find_place key (owners_of a [] rows) ≡ 0
first-place a key [] = refl
first-place a key (r ∷ rows) = by (r.key == key) (first-place a key rows)
  where
    by : (b : Bool) → find_place key (owners_of a [] rows) ≡ 0 → cond b 0 (find_place key (owners_of a [] rows)) ≡ 0
    by true rest = refl
    by false rest = rest

first-places : (a : ℕ) (rows : List Row) (vs : List Update) → map (place_by a [] []) vs ≡ map (place_by a [] (owners_of a [] rows)) vs
first-places a rows [] = refl
first-places a rows (update.Insert r ∷ vs) = ap (λ l. 0 ∷ l) (first-places a rows vs)
first-places a rows (update.Remove k ∷ vs) = ap (λ n. n ∷ map (place_by a [] []) vs) (sym (first-place a k rows)) ∙ ap (λ l. find_place k (owners_of a [] rows) ∷ l) (first-places a rows vs)

-- so what is kept tells where updates go
pub kept-places : (a : ℕ) (cuts : List ℤ) (rows : List Row) (vs : List Update) → map (place_by a cuts (owners_kept a cuts rows)) vs ≡ map (place_by a cuts (owners_of a cuts rows)) vs
kept-places a [] rows vs = first-places a rows vs
kept-places a (c ∷ cs) rows vs = refl
