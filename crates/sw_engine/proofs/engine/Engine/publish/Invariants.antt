use Rattle.sw_engine.specs.Sessions.{Stays}
use Rattle.sw_engine.proofs.engine.Engine.publish.Given as goal

abbrev pub invariant-loop : goal.invariant-loop
invariant-loop g l = Stays l.initial.ticket l.ticket
