use Rattle.std.proofs.Common.{◌<◌, All, take}
use Rattle.sw_table.specs.declared.row.Row.{Row}
use Rattle.test_calls.proofs.areas.are_below.Given as goal

abbrev pub invariant-loop-row : goal.invariant-loop-row
invariant-loop-row l = All (λ (r : Row). r.key < l.next) (take l.row-index l.rows)
