use Rattle.std.proofs.Common.{sym, subst}
use Rattle.sw_set.specs.Boxed.{IsFreshBut}
use Rattle.sw_set.specs.Shelf.{AreaState}
use Rattle.sw_set.proofs.Areas.Shelves.{area-tried, tried-view}
use Rattle.sw_set.proofs.area.Area.make.Goals as goal

pub invariant_of-self : goal.invariant_of-self
invariant_of-self g c =
    let fresh : IsFreshBut c.args.at c.args.tail c.self.inside.boxes = subst (λ (v : AreaState). IsFreshBut c.args.at c.args.tail v.boxes) (sym c.self.view_is) c.requires.fresh in
    (area-tried _ _ _ _ _ _ _ _ _ _ _ _ c.requires.some fresh c.begin_at.ensures.begun c.self.invariant.0, c.self.invariant.1)

pub returns-clause-made : goal.returns-clause-made
returns-clause-made g c = tried-view _ _ _ _ _ _ _ _ _ _ _ _ _ c.self.view_is c.begin_at.ensures.begun
