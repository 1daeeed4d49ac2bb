-- When a box is lawful: blank, or as the tape up to its cursor leaves it.
use Rattle.std.specs.Prelude.{◌≡◌, ◌≤◌, ◌⊎◌, ℕ, false, List, length, take}
use Rattle.sw_table.specs.declared.row.Row.{Row}
use Rattle.sw_query.specs.Scan.{cell_of}
use Rattle.sw_kernel.specs.Arrangement.{Arrangement}
use Rattle.sw_kernel.specs.Replay.{Step, replay, shown}
use Rattle.sw_map.specs.Held.{Held, blank, pair_in}

-- the rows of a tape in their pieces, by the cells of an attribute
abbrev pub rows_by : ℕ → List (Step Row) → Arrangement Row
rows_by a tape = replay (cell_of a) tape

-- a map of this head that holds what the entries before its cursor leave, each row as its pair
pub record IsAligned (a : ℕ) (tape : List (Step Row)) (m : Held) : Type 0 where
  pub begun : m.is_blank ≡ false
  pub same_head : m.head ≡ a
  pub within : m.cursor ≤ length tape
  pub pairs_are : m.pairs ≡ shown (pair_in a m.tail) (rows_by a (take m.cursor tape))

unfoldable pub IsLawful : ℕ → List (Step Row) → Held → Type 0
IsLawful a tape m = (m ≡ blank) ⊎ IsAligned a tape m
