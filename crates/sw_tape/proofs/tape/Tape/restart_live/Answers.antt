use Rattle.sw_tape.proofs.InPlace.{kept-loaded}
use Rattle.sw_tape.proofs.tape.Tape.restart_live.Goals as goal

pub invariant_of-self-2 : goal.invariant_of-self-2
invariant_of-self-2 c = rw c.new.ensures.items (kept-loaded _ _ c.in_ok-many.many c.in_ok-many.ensures.kept c.in_ok-many.ensures.many.0 c.in_ok-many.ensures.many.1)
