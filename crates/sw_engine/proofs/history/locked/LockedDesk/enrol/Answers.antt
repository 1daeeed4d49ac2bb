use Rattle.std.proofs.Common.{sym, ap, ◌∙◌, subst}
use Rattle.sw_spine.specs.Books.{Books}
use Rattle.sw_versions.specs.Rules.{updates_in}
use Rattle.sw_engine.specs.Published.{IsNewShare, published_of}
use Rattle.sw_engine.proofs.Shelves.{published_is, shelf_session}
use Rattle.sw_engine.proofs.history.locked.LockedDesk.enrol.Goals as goal

pub new-requires-clause-share : goal.new-requires-clause-share
new-requires-clause-share g c =
    let e = c.in_ok-number.ensures in
    subst (λ (b : Books). IsNewShare g.J.Naming.sessions b c.in_ok-number.number c.in_ok-number.share) (sym e.share.3) e.share

pub new-requires-clause-receipt : goal.new-requires-clause-receipt
new-requires-clause-receipt g c =
    let j = g.J.Naming in
    ap updates_in c.published.ensures ∙ sym (ap (published_of j.opening) (c.in_ok-number.ensures.share.3 ∙ c.in_ok-number.ensures.made) ∙ published_is j.limit j.opening c.self.inside.desk.books c.self.inside.shelf c.self.invariant.0)

pub returns-clause-new : goal.returns-clause-new
returns-clause-new g c = (c.new.ensures.number ∙ c.in_ok-number.ensures.share.0, c.new.ensures.new)

pub invariant_of-self-2 : goal.invariant_of-self-2
invariant_of-self-2 g c =
    let j = g.J.Naming in
    (shelf_session j.limit j.opening c.self.inside.desk.books c.enrol.new.self.books c.self.inside.shelf c.self.invariant.0 c.in_ok-number.ensures.made, c.self.invariant.1)
