use Rattle.std.proofs.Common.{◌∙◌, ap, subst}
use Rattle.sw_kernel.specs.Tapes.{brought}
use Rattle.sw_set.specs.Inbox.{Waiting}
use Rattle.sw_set.specs.Merged.{without_inbox}
use Rattle.sw_set.specs.Shelf.{AreReceivable, AreaState, area_over, logged_rows}
use Rattle.sw_set.proofs.Areas.Shelves.{area-waiting}
use Rattle.sw_set.proofs.area.Area.take_inbox.Goals as goal

pub invariant_of-self : goal.invariant_of-self
invariant_of-self g c = (rw c.take.ensures.left (area-waiting _ _ _ _ _ _ _ _ _ tt c.self.invariant.0), c.self.invariant.1)

pub returns-clause-area : goal.returns-clause-area
returns-clause-area g c =
    let s = c.self.inside in
    ap (λ (w : Waiting). area_over s.attribute s.from s.below w s.tape s.boxes) c.take.ensures.left ∙ ap without_inbox c.self.view_is

pub returns-clause-taken : goal.returns-clause-taken
returns-clause-taken g c = ap (λ (w : Waiting). w.updates) c.take.ensures.taken ∙ ap (λ (v : AreaState). v.inbox) c.self.view_is

pub returns-clause-spare : goal.returns-clause-spare
returns-clause-spare g c = ap (λ (w : Waiting). w.spare) c.take.ensures.taken ∙ ap (λ (v : AreaState). v.spare) c.self.view_is

pub returns-clause-receivable : goal.returns-clause-receivable
returns-clause-receivable g c =
    let s = c.self.inside in
    let us = c.take.result.updates in
    let may : AreReceivable s.attribute s.from s.below (brought s.tape) (logged_rows s.attribute s.tape) us = rw c.take.ensures.taken c.self.invariant.0.receivable in
    subst (λ (v : AreaState). AreReceivable v.attribute v.from v.below (brought v.tape) (logged_rows v.attribute v.tape) us) c.self.view_is may
