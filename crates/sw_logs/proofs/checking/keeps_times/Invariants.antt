use Rattle.sw_logs.proofs.OrderLemmas.{OnTimeBelow}
use Rattle.sw_logs.proofs.checking.keeps_times.Given as goal

abbrev pub invariant-loop-place : goal.invariant-loop-place
invariant-loop-place l = OnTimeBelow l.place-index l.slack l.calls l.places l.latest
