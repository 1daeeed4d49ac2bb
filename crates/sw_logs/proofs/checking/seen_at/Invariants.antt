use Rattle.sw_logs.proofs.OrderLemmas.{MarkedBelow}
use Rattle.std.proofs.Common.{length}
use Rattle.sw_logs.proofs.checking.seen_at.Given as goal

abbrev pub invariant-loop-place : goal.invariant-loop-place
invariant-loop-place l = MarkedBelow l.place-index (length l.calls) l.places l.seen.items
