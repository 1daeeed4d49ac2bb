use Rattle.sideways.proofs.+take_stack.Given as goal

abbrev pub decreases-take_stack : goal.decreases-take_stack
decreases-take_stack g l = l.pages
