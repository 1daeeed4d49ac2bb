use Rattle.std.proofs.Common.{subst}
use Rattle.sw_set.specs.Sought.{EndsBy, Shows, TellsUnless}
use Rattle.sw_set.specs.Shelf.{AreaState}
use Rattle.sw_set.proofs.area.Area.peek.Goals as goal

pub returns : goal.returns
returns g c = subst (λ (v : AreaState). TellsUnless (EndsBy c.args.tail c.args.place) (Shows c.args.tail c.args.place) v.boxes c.peek.result) c.self.view_is c.peek.ensures
