use Rattle.std.proofs.Common.{◌≡◌, fold, take}
use Rattle.sw_table.specs.Updates.{rows_then}
use Rattle.sw_table.proofs.updates.update_all.Given as goal

abbrev pub invariant-loop-one : goal.invariant-loop-one
invariant-loop-one l = l.rows.items ≡ fold rows_then l.initial.rows.items (take l.one-index l.updates)
