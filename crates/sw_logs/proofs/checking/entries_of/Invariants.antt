use Rattle.std.proofs.Common.{take}
use Rattle.sw_logs.specs.Orders.{AreEntriesOf}
use Rattle.sw_logs.proofs.checking.entries_of.Given as goal

abbrev pub invariant-loop-place : goal.invariant-loop-place
invariant-loop-place l = AreEntriesOf l.calls (take l.place-index l.places) l.entries.items
