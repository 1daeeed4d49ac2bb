use Rattle.sw_set.proofs.Preparing.Trying.{HasCleared, IsTrying}
use Rattle.sw_set.proofs.prepare.making.begin_again.Given as goal

abbrev pub invariant-loop-turn : goal.invariant-loop-turn
invariant-loop-turn g l = IsTrying l.at l.tails l.tail l.initial.area l.area × HasCleared l._turn l.area.boxes
