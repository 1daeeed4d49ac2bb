use Rattle.std.proofs.Common.{subst}
use Rattle.sw_set.specs.Sought.{IsCrackedAt, IsUncracked, TellsUnless}
use Rattle.sw_set.specs.Shelf.{AreaState}
use Rattle.sw_set.proofs.area.Area.place.Goals as goal

pub returns : goal.returns
returns g c = subst (λ (v : AreaState). TellsUnless (IsUncracked c.args.bound) (IsCrackedAt c.args.bound) v.boxes c.place.result) c.self.view_is c.place.ensures
