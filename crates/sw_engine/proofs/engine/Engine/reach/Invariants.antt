use Rattle.std.proofs.Common.{◌≡◌, true}
use Rattle.sw_engine.proofs.engine.Engine.reach.Given as goal

abbrev pub invariant-loop : goal.invariant-loop
invariant-loop g l = l.head.made ≡ true
