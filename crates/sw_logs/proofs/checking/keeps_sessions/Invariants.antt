use Rattle.sw_logs.proofs.OrderLemmas.{InOrderBelow}
use Rattle.sw_logs.proofs.checking.keeps_sessions.Given as goal

abbrev pub invariant-loop-place : goal.invariant-loop-place
invariant-loop-place l = InOrderBelow l.place-index l.calls l.places l.from.items
