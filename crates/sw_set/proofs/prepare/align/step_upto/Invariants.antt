use Rattle.sw_set.proofs.Areas.Boxes.{IsOnTheWay}
use Rattle.sw_set.proofs.prepare.align.step_upto.Given as goal

abbrev pub invariant-loop-i : goal.invariant-loop-i
invariant-loop-i g l = IsOnTheWay l.tape l.i (g.M.CrackerMap.held l.initial.it) (g.M.CrackerMap.held l.it)
