use Rattle.sw_rows.specs.Groups.{AreAllSeen}
use Rattle.sw_rows.proofs.table.seen.SeenCodes.look_for.Given as goal

abbrev pub invariant-loop-place : goal.invariant-loop-place
invariant-loop-place l = AreAllSeen l.texts l.group l.self
