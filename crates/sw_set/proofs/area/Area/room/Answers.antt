use Rattle.std.proofs.Common.{subst}
use Rattle.sw_set.specs.Outcomes.{HasMadeRoomOr}
use Rattle.sw_set.specs.Shelf.{AreaState}
use Rattle.sw_set.proofs.Areas.Shelves.{area-roomy, roomy-view}
use Rattle.sw_set.proofs.area.Area.room.Goals as goal

pub invariant_of-self : goal.invariant_of-self
invariant_of-self g c = (area-roomy _ _ _ _ _ _ _ c.room.ensures.same c.self.invariant.0, c.self.invariant.1)

pub returns-clause-same : goal.returns-clause-same
returns-clause-same g c = roomy-view _ _ _ _ _ _ _ _ c.self.view_is c.room.ensures.same

pub returns-clause-ends : goal.returns-clause-ends
returns-clause-ends g c = subst (λ (v : AreaState). HasMadeRoomOr c.room.result c.args.more v.spare c.room.new.self.spare) c.self.view_is c.room.ensures.ends
