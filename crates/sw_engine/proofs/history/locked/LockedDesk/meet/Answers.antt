use Rattle.std.proofs.Common.{◌∙◌, List, ap, subst, sym}
use Rattle.std.proofs.lemmas.Result.{IfOk-weaker}
use Rattle.sw_table.specs.declared.row.Update.{Update}
use Rattle.sw_engine.specs.Locked.{LockState}
use Rattle.sw_engine.specs.Published.{EndWithEntries, Shown}
use Rattle.sw_engine.proofs.history.locked.LockedDesk.meet.Goals as goal

pub returns-clause-ends : goal.returns-clause-ends
returns-clause-ends g c =
    let j = g.J.Naming in
    let v = c.publish-came.new.self in
    let ends : EndWithEntries j.limit j.opening c.publish-came.new.ticket.2.entries v.shelf.published =
    subst (λ (x : Shown). EndWithEntries j.limit j.opening x.2.entries v.shelf.published) (sym c.publish-came.ensures.sees) c.publish-came.ensures.entries in
    IfOk-weaker c.meet.result _ _
    (λ r is. subst (λ (l : List (List Update)). EndWithEntries j.limit j.opening c.publish-came.new.ticket.2.entries l) (sym (is ∙ ap (λ (x : LockState). x.shelf.published) c.self.view_is)) ends)
    c.meet.ensures.receipt
