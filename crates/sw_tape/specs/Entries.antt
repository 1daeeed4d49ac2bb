-- A tape's entries as steps, and what its fields keep.
use Rattle.std.specs.Prelude.{◌≡◌, ◌≤◌, ◌<◌, ◌+◌, ◌^◌, ℕ, List, length}
use Rattle.sw_query.specs.declared.bound.Bound.{Bound}
use Rattle.sw_table.specs.declared.row.Row.{Row}
use Rattle.sw_kernel.specs.Replay.{Step, loaded, inserted, removed, ranged}
use Rattle.sw_kernel.specs.Tapes.{IsTape, IsRising, count_from, peak_from, is_marked}
use Rattle.sw_tape.specs.declared.entry.Entry.{Entry}
use Rattle.sw_tape.specs.declared.entry.Entry.TheVariants.{Load, Insert, Remove, Range}
use Rattle.sw_tape.specs.declared.tape.TheConstants.{MAX_ENTRIES}
use Rattle.sw_tape.specs.Bounds.{is_among}

-- an entry as a step on arrangements of rows
abbrev pub step_of : Entry → Step Row
step_of (Load rows) = loaded rows.items
step_of (Insert row) = inserted row
step_of (Remove place) = removed place
step_of (Range lower upper) = ranged lower upper

-- what the bounds, the number of pairs and the peak of a tape of these steps are
pub record IsKept (steps : List (Step Row)) (bounds : List Bound) (pairs peak : ℕ) : Type 0 where
  pub tape : IsTape steps
  pub short : length steps ≤ MAX_ENTRIES
  pub rising : IsRising bounds
  pub marked : (b : Bound) → is_among b bounds ≡ is_marked b steps
  pub counted : pairs ≡ count_from 0 steps
  pub highest : peak ≡ peak_from 0 steps
  pub few : pairs < 2 ^ 63 + length steps
