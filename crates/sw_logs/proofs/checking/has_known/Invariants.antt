use Rattle.sw_logs.proofs.OrderLemmas.{KnownBelow}
use Rattle.sw_logs.proofs.checking.has_known.Given as goal

abbrev pub invariant-loop-number : goal.invariant-loop-number
invariant-loop-number l = KnownBelow l.number l.calls l.places
