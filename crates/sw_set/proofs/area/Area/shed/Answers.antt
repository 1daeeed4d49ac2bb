use Rattle.sw_set.proofs.Areas.Dropped.{area-dropped, shed-view}
use Rattle.sw_set.proofs.area.Area.shed.Goals as goal

pub invariant_of-self : goal.invariant_of-self
invariant_of-self g c = (area-dropped _ _ _ _ _ _ _ _ _ _ c.shed.ensures.dropped c.self.invariant.0, c.self.invariant.1)

pub returns-clause-shed : goal.returns-clause-shed
returns-clause-shed g c = shed-view _ _ _ _ _ _ _ _ _ _ _ c.self.view_is c.shed.ensures.dropped
