use Rattle.sw_set.proofs.Areas.Twins.{keep-room}
use Rattle.sw_set.proofs.prepare.in_turn.step_in_turn.Goals as goal

pub step_next-from-requires-clause-room : goal.step_next-from-requires-clause-room
step_next-from-requires-clause-room g c κs within =
    keep-room g.M.CrackerMap.held c.args.course.now.tails.now c.args.course.now.tape.now c.args.boxes.now c.boxes.boxes c.boxes.invariant.0 c.boxes.invariant.2 c.requires.room

pub step_next-from-requires-clause-needed : goal.step_next-from-requires-clause-needed
step_next-from-requires-clause-needed g c κs within = let found = c.in-Some.ensures in (found.1.0, λ d. (found.1.1 d).0)
