use Rattle.sw_set.proofs.Areas.AtRest.{StandBefore}
use Rattle.sw_set.proofs.area.resting.stand_ready.Given as goal

abbrev pub invariant-loop-at : goal.invariant-loop-at
invariant-loop-at g l = StandBefore l.area.tape l.area.boxes l.tails l.at
