use Rattle.sw_set.proofs.Areas.Shelves.{area-supplied, supplied-view}
use Rattle.sw_set.proofs.area.Area.supply.Goals as goal

pub invariant_of-self : goal.invariant_of-self
invariant_of-self g c = (area-supplied _ _ _ _ _ _ _ _ _ _ c.supply.ensures c.self.invariant.0, c.self.invariant.1)

pub returns : goal.returns
returns g c = supplied-view _ _ _ _ _ _ _ _ _ _ _ c.self.view_is c.supply.ensures
