-- How the list of the live rows of a tape stands to it.
use Rattle.std.specs.Prelude.{◌≡◌, ◌++◌, ℕ, List, length}
use Rattle.sw_table.specs.declared.row.Row.{Row}
use Rattle.sw_kernel.specs.Replay.{Step}
use Rattle.sw_kernel.specs.Tapes.{brought}
use Rattle.sw_table.specs.Kept.{kept}
use Rattle.sw_tape.specs.Restart.{first_rows}
use Rattle.sw_set.specs.Live.{Standing}
use Rattle.sw_set.specs.Shelf.{logged_rows}

-- what came is the tape's load and the later rows, there is a flag for each, and those that are kept are live
pub record IsTied (a : ℕ) (tape : List (Step Row)) (s : Standing) : Type 0 where
  pub came : first_rows tape ++ s.later ≡ brought tape
  pub many : length s.flags ≡ length (brought tape)
  pub live : kept s.flags (brought tape) ≡ logged_rows a tape
