use Rattle.sw_set.proofs.area.Area.set_now.Goals as goal

pub invariant_of-self : goal.invariant_of-self
invariant_of-self g c = (rw c.set_now.ensures c.self.invariant.0, c.self.invariant.1)

pub returns : goal.returns
returns g c = rw c.set_now.ensures c.self.view_is
