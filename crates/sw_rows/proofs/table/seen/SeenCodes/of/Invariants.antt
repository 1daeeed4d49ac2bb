use Rattle.sw_rows.specs.Groups.{AreAllSeen}
use Rattle.sw_rows.proofs.table.seen.SeenCodes.of.Given as goal

abbrev pub invariant-loop-attr : goal.invariant-loop-attr
invariant-loop-attr l = AreAllSeen l.texts l.group l.seen
