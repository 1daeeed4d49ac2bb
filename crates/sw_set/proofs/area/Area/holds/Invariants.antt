use Rattle.std.proofs.Common.{◌≡◌, fold, take}
use Rattle.sw_table.specs.Updates.{has_key, rows_then}
use Rattle.sw_set.specs.Shelf.{logged_rows}
use Rattle.sw_set.proofs.area.Area.holds.Given as goal

abbrev pub invariant-loop-update : goal.invariant-loop-update
invariant-loop-update g l = l.held ≡ has_key l.key (fold rows_then (logged_rows l.self.attribute l.self.tape) (take l.update-index l.self.inbox))
