use Rattle.sideways_c.proofs.boxes.blank_boxes.Goals as goal

pub returns-clause-budget : goal.returns-clause-budget
returns-clause-budget c = (c.loop.purse.budget, c.loop.invariant.budget)
