use Rattle.sw_set.proofs.area.Area.trim.Goals as goal

pub invariant_of-self : goal.invariant_of-self
invariant_of-self g c = (rw c.trim.ensures c.self.invariant.0, c.self.invariant.1)

pub returns : goal.returns
returns g c = rw c.trim.ensures c.self.view_is
