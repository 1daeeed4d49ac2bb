use Rattle.std.proofs.Common.{◌≤◌, ◌-◌, drop, take}
use Rattle.sw_table.specs.Rows.{cell_of}
use Rattle.sw_load.specs.Appended.{Fit, cell_or_key, part_of}
use Rattle.sw_load.proofs.Appended.{IsAppending}
use Rattle.sw_load.proofs.appending.append_part.Given as goal

abbrev pub invariant-loop-from : goal.invariant-loop-from
invariant-loop-from l = record {
  within : l.from ≤ l.end;
  fit : Fit l.columns.tail (take (l.end - l.from) (drop l.from l.rows.items));
  heads : IsAppending (cell_of l.columns.head) l.initial.heads l.heads (take (l.end - l.from) (drop l.from l.rows.items)) (part_of l.rows.items l.fn.part);
  tails : IsAppending (cell_or_key l.columns.tail) l.initial.tails l.tails (take (l.end - l.from) (drop l.from l.rows.items)) (part_of l.rows.items l.fn.part);
}

abbrev pub decreases-loop-from : goal.decreases-loop-from
decreases-loop-from l = l.end - l.from
