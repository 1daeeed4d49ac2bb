-- When a map may replay an entry.
use Rattle.std.specs.Prelude.{◌≡◌, ◌<◌, ◌≤◌, false}
use Rattle.sw_table.specs.declared.row.Row.{Row}
use Rattle.sw_kernel.specs.Replay.{Step}
use Rattle.sw_tape.specs.declared.tape.TheConstants.{MAX_ENTRIES}
use Rattle.sw_map.specs.Held.{Held, KeysFit, MayReplay, after, pairs_in}

-- all that a step asks of its caller
pub record CanReplay (e : Step Row) (m : Held) : Type 0 where
  pub begun : m.is_blank ≡ false
  pub early : m.cursor < MAX_ENTRIES
  pub next : MayReplay m e
  pub keys : KeysFit e
  pub room : pairs_in (after e m) ≤ m.cells
