use Rattle.sw_set.proofs.prepare.in_turn.step_next.Goals as goal

pub step_twins-requires-clause-twin : goal.step_twins-requires-clause-twin
step_twins-requires-clause-twin g c κs within = let found = c.in-Some.ensures in (found.1.0, λ d. (found.1.1 d).0)
