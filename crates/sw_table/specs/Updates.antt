-- A list of updates, and the rows that it leaves.
use Rattle.std.specs.Prelude.{◌≡◌, ◌<◌, ◌==◌, ◌++◌, ℕ, Bool, not, List, [], ◌∷◌, filter, fold, length, take}
use Rattle.std.specs.List.{list_any}
use Rattle.sw_table.specs.declared.row.Row.{Row}
use Rattle.sw_table.specs.declared.row.Update.{Update}
use Rattle.sw_table.specs.declared.row.Update.TheVariants as update

-- the rows without that of a key
abbrev pub without : ℕ → List Row → List Row
without key rs = filter (λ r. not (r.key == key)) rs

-- the rows after one more update
abbrev pub rows_then : List Row → Update → List Row
rows_then rs (update.Insert r) = rs ++ r ∷ []
rows_then rs (update.Remove key) = without key rs

-- the rows of a list of updates
abbrev pub rows_of : List Update → List Row
rows_of us = fold rows_then [] us

-- the rows after the first ones of some updates, but not after all of them
abbrev pub IsPartWay : List Update → List Row → List Row → Type 0
IsPartWay updates old new = (n : ℕ) × (n < length updates) × (new ≡ fold rows_then old (take n updates))

-- whether rows have a key
abbrev pub has_key : ℕ → List Row → Bool
has_key key rs = list_any (λ r. key == r.key) rs
