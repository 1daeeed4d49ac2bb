-- Where a row's pair stands in a map.
use Rattle.std.specs.Prelude.{◌≡◌, ◌≢◌, ◌≤◌, ◌<◌, ℕ, ℤ, pos, List, slice_index_or, unsigned_abs, Option, None, Some, Any}
use Rattle.sw_query.specs.declared.bound.Bound.{Bound}
use Rattle.sw_table.specs.declared.row.Row.{Row}
use Rattle.sw_query.specs.Scan.{cell_of}
use Rattle.sw_kernel.specs.Replay.{Step}
use Rattle.sw_map.specs.Held.{Held, place_of}
use Rattle.sw_set.specs.Shelf.{logged_rows}

-- a bound that is there has a place in the map
abbrev pub HasCrackedAt : Option Bound → Held → Type 0
HasCrackedAt None m = Unit {0}
HasCrackedAt (Some b) m = (n : ℕ) × (place_of b m.pairs ≡ Some n)

-- a live row of the tape has the key, and this cell of an attribute
abbrev pub HasRowWith : ℕ → ℤ → ℕ → List (Step Row) → Type 0
HasRowWith key value a tape = Any (λ (r : Row). (r.key ≡ key) × (cell_of a r ≡ value)) (logged_rows a tape)

-- no cell from one place up to below another is the key
abbrev pub LacksKey : ℕ → List ℤ → ℕ → ℕ → Type 0
LacksKey key cells from upto = (k : ℕ) → from ≤ k → k < upto → unsigned_abs (slice_index_or cells k (pos 0)) ≢ key
