use Rattle.std.proofs.Common.{sym, subst}
use Rattle.sw_set.specs.Shelf.{AreReceivable, AreaState, came_in, rows_in}
use Rattle.sw_set.proofs.Areas.Shelves.{area-received, come, come-view}
use Rattle.sw_set.proofs.area.Area.receive.Goals as goal

pub invariant_of-self : goal.invariant_of-self
invariant_of-self g c =
    let us = c.args.updates.now in (
      area-received c.receive.result _ _ _ _ us c.receive.new.self.updates _ _ _ _ (come _ us _ _ c.receive.ensures.ends) (subst (λ (v : AreaState). AreReceivable v.attribute v.from v.below (came_in v) (rows_in v) us) (sym c.self.view_is) c.requires) c.self.invariant.0,
      c.self.invariant.1,
    )

pub returns-clause-ends : goal.returns-clause-ends
returns-clause-ends g c = come-view _ _ _ _ _ _ _ _ _ _ c.self.view_is c.receive.ensures.ends
