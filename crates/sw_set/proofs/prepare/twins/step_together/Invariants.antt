use Rattle.sw_set.proofs.Areas.Twins.{AreOnTheWay}
use Rattle.sw_set.proofs.prepare.twins.step_together.Given as goal

-- both maps are those that they were, and have replayed the entries so far
abbrev pub invariant-loop-i : goal.invariant-loop-i
invariant-loop-i g l = AreOnTheWay l.attribute l.tape l.i (g.M.CrackerMap.held l.initial.it) (g.M.CrackerMap.held l.initial.twin) (g.M.CrackerMap.held l.it) (g.M.CrackerMap.held l.twin)
