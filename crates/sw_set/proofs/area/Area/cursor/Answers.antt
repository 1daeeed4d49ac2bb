use Rattle.std.proofs.Common.{subst}
use Rattle.sw_set.specs.Sought.{HasCursor, LacksMap, TellsUnless}
use Rattle.sw_set.specs.Shelf.{AreaState}
use Rattle.sw_set.proofs.area.Area.cursor.Goals as goal

pub returns : goal.returns
returns g c = subst (λ (v : AreaState). TellsUnless (LacksMap c.args.tail) (HasCursor c.args.tail) v.boxes c.cursor.result) c.self.view_is c.cursor.ensures
