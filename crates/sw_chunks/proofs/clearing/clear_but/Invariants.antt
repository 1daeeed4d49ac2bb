use Rattle.sw_chunks.proofs.Clears.{AreClearing, maps_in}
use Rattle.sw_chunks.proofs.clearing.clear_but.Given as goal

abbrev pub invariant-loop-came : goal.invariant-loop-came
invariant-loop-came g l = AreClearing l.but l.cells l.initial.areas l.areas l.came

abbrev pub decreases-loop-came : goal.decreases-loop-came
decreases-loop-came g l = maps_in l.areas
