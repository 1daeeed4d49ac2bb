-- Which places are gone over to meet the rows that a table has.
use Rattle.std.specs.Prelude.{◌≡◌, ◌≤◌, ◌<◌, ◌-◌, ◌++◌, ℕ, Bool, true, false, List, [], length, map, slice_index_or}
use Rattle.std.specs.List.{AllByRecursion, range_with_len}
use Rattle.sw_rows.specs.declared.table.TheConstants.{MOST_ROWS}
use Rattle.sw_table.specs.Kept.{kept}
use Rattle.sw_table.specs.declared.row.Row.{Row}
use Rattle.sw_spine.specs.Table.{is_numbered}

-- some places, and then all from a place on, of so many
abbrev pub listed : List ℕ → ℕ → ℕ → List ℕ
listed some from many = some ++ range_with_len from (many - from)

-- the rows that stand at places
abbrev pub rows_at : List ℕ → List Row → List Row
rows_at places given = map (λ p. slice_index_or given p (record { key = 0; cells = [] })) places

-- whether each of them is live
abbrev pub flags_at : List ℕ → List Bool → List Bool
flags_at places live = map (λ p. slice_index_or live p false) places

-- The live rows at these places, in their order, are the live ones of all.
pub record MeetsAllLive (given : List Row) (live : List Bool) (places : List ℕ) : Type 0 where
  pub inside : AllByRecursion (λ p. p < length given) places
  pub met : kept (flags_at places live) (rows_at places given) ≡ kept live given

-- the rows that were given, whether each of them is live, and the places that are gone over
pub record Given : Type 0 where
  pub rows : List Row
  pub live : List Bool
  pub places : List ℕ

-- the rows that a pass over the places meets: those that are live
abbrev pub met : Given → List Row
met g = kept (flags_at g.places g.live) (rows_at g.places g.rows)

-- the places are listed, of rows that are not too many, with a flag each
pub record IsListed (given : List Row) (live : List Bool) (some : List ℕ) (from : ℕ) : Type 0 where
  pub most : length given ≤ MOST_ROWS
  pub many : length live ≡ length given
  pub short : from ≤ length given
  pub meets : MeetsAllLive given live (listed some from (length given))

-- whatever rows by the keys 1, 2, 3 and so on and whatever places: where these are listed, so they are afterwards
abbrev pub KeepsListed : List Bool → List Bool → Type 0
KeepsListed was live =
    (given : List Row) (some : List ℕ) (from : ℕ)
    → is_numbered 1 given ≡ true → IsListed given was some from → IsListed given live some from
