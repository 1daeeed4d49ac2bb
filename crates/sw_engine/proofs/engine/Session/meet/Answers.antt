use Rattle.std.proofs.Common.{List, ap, subst, sym, ◌∙◌}
use mathlib.Core.List.{IsPrefix}
use Rattle.sw_table.specs.declared.row.Update.{Update}
use Rattle.sw_spine.specs.declared.history.Entry.{Entry}
use Rattle.sw_versions.specs.Rules.{updates_in}
use Rattle.sw_engine.specs.Later.{Begin}
use Rattle.sw_engine.specs.Own.{own_of}
use Rattle.sw_engine.specs.Published.{EndWithEntries, Shown}
use Rattle.sw_engine.proofs.Called.{keeps_receipt, received, stays_trans}
use Rattle.sw_engine.proofs.Shelves.{begin_ends}
use Rattle.sw_engine.proofs.engine.Session.meet.Goals as goal

pub returns-clause-number : goal.returns-clause-number
returns-clause-number g c =
    let a = c.self.inside.ticket in
    let b = c.meet.new.ticket in
    let stays = stays_trans a c.publish-published.new.ticket b c.publish-published.ensures.stays c.meet.ensures.stays in
    let d = c.receive.new.self in
    let is = received c.again.result a b d stays.visited c.receive.ensures in
    is.number ∙ ap (λ (v : Shown). v.0) c.self.view_is

pub returns-clause-mine : goal.returns-clause-mine
returns-clause-mine g c =
    let a = c.self.inside.ticket in
    let b = c.meet.new.ticket in
    let stays = stays_trans a c.publish-published.new.ticket b c.publish-published.ensures.stays c.meet.ensures.stays in
    let d = c.receive.new.self in
    let is = received c.again.result a b d stays.visited c.receive.ensures in
    is.calls ∙ stays.calls ∙ ap (λ (v : Shown). v.1) c.self.view_is

pub returns-clause-own : goal.returns-clause-own
returns-clause-own g c =
    let a = c.self.inside.ticket in
    let b = c.meet.new.ticket in
    let stays = stays_trans a c.publish-published.new.ticket b c.publish-published.ensures.stays c.meet.ensures.stays in
    let d = c.receive.new.self in
    let is = received c.again.result a b d stays.visited c.receive.ensures in
    is.own ∙ stays.own ∙ ap own_of c.self.view_is

pub returns-clause-grows : goal.returns-clause-grows
returns-clause-grows g c =
    let a = c.self.inside.ticket in
    let b = c.meet.new.ticket in
    let stays = stays_trans a c.publish-published.new.ticket b c.publish-published.ensures.stays c.meet.ensures.stays in
    let d = c.receive.new.self in
    let is = received c.again.result a b d stays.visited c.receive.ensures in
    subst (λ (v : Shown). Begin v.2.entries d.2.entries) c.self.view_is is.grows

pub returns-clause-missed : goal.returns-clause-missed
returns-clause-missed g c =
    let a = c.self.inside.ticket in
    let b = c.meet.new.ticket in
    let stays = stays_trans a c.publish-published.new.ticket b c.publish-published.ensures.stays c.meet.ensures.stays in
    let d = c.receive.new.self in
    let is = received c.again.result a b d stays.visited c.receive.ensures in
    is.missed ∙ ap (λ (v : Shown). v.2.missed) c.self.view_is

pub returns-clause-receipt : goal.returns-clause-receipt
returns-clause-receipt g c =
    let a = c.self.inside.ticket in
    let b = c.meet.new.ticket in
    let stays = stays_trans a c.publish-published.new.ticket b c.publish-published.ensures.stays c.meet.ensures.stays in
    let d = c.receive.new.self in
    let is = received c.again.result a b d stays.visited c.receive.ensures in
    (ap updates_in (is.given ∙ c.again.ensures) ∙ c.in_ok-published.ensures.told ∙ sym is.published, subst (λ (v : Shown). IsPrefix v.2.given d.2.given) c.self.view_is is.longer)

pub returns-clause-told : goal.returns-clause-told
returns-clause-told g c =
    let a = c.self.inside.ticket in
    let b = c.meet.new.ticket in
    let stays = stays_trans a c.publish-published.new.ticket b c.publish-published.ensures.stays c.meet.ensures.stays in
    let d = c.receive.new.self in
    let is = received c.again.result a b d stays.visited c.receive.ensures in
    sym (is.given ∙ c.again.ensures)

pub returns-clause-ends : goal.returns-clause-ends
returns-clause-ends g c =
    let a = c.self.inside.ticket in
    let b = c.meet.new.ticket in
    let stays = stays_trans a c.publish-published.new.ticket b c.publish-published.ensures.stays c.meet.ensures.stays in
    let d = c.receive.new.self in
    let is = received c.again.result a b d stays.visited c.receive.ensures in
    subst (λ (es : List Entry). EndWithEntries g.J.Naming.limit g.J.Naming.opening es c.in_ok-published.published) (sym is.entries) c.in_ok-published.ensures.ends

pub returns-clause-saw : goal.returns-clause-saw
returns-clause-saw g c =
    let a = c.self.inside.ticket in
    let b = c.meet.new.ticket in
    let stays = stays_trans a c.publish-published.new.ticket b c.publish-published.ensures.stays c.meet.ensures.stays in
    let d = c.receive.new.self in
    let is = received c.again.result a b d stays.visited c.receive.ensures in
    let j = g.J.Naming in
    subst (λ (es : List Entry). EndWithEntries j.limit j.opening es c.meet.new.viewer.seen) (sym is.entries)
    (subst (λ (l : List (List Update)). EndWithEntries j.limit j.opening b.2.entries l) (sym c.in_ok-published.ensures.seen)
    (begin_ends j.limit j.opening b.2.entries _ c.in_ok-published.published c.in_ok-published.ensures.met.0 c.in_ok-published.ensures.ends))

pub returns-in_err-published-clause-number : goal.returns-in_err-published-clause-number
returns-in_err-published-clause-number g c =
    let a = c.self.inside.ticket in
    let b = c.meet.new.ticket in
    let stays = stays_trans a c.publish-published.new.ticket b c.publish-published.ensures.stays c.meet.ensures.stays in
    stays.visited.number ∙ ap (λ (v : Shown). v.0) c.self.view_is

pub returns-in_err-published-clause-mine : goal.returns-in_err-published-clause-mine
returns-in_err-published-clause-mine g c =
    let a = c.self.inside.ticket in
    let b = c.meet.new.ticket in
    let stays = stays_trans a c.publish-published.new.ticket b c.publish-published.ensures.stays c.meet.ensures.stays in
    stays.calls ∙ ap (λ (v : Shown). v.1) c.self.view_is

pub returns-in_err-published-clause-own : goal.returns-in_err-published-clause-own
returns-in_err-published-clause-own g c =
    let a = c.self.inside.ticket in
    let b = c.meet.new.ticket in
    let stays = stays_trans a c.publish-published.new.ticket b c.publish-published.ensures.stays c.meet.ensures.stays in
    stays.own ∙ ap own_of c.self.view_is

pub returns-in_err-published-clause-grows : goal.returns-in_err-published-clause-grows
returns-in_err-published-clause-grows g c =
    let a = c.self.inside.ticket in
    let b = c.meet.new.ticket in
    let stays = stays_trans a c.publish-published.new.ticket b c.publish-published.ensures.stays c.meet.ensures.stays in
    subst (λ (v : Shown). Begin v.2.entries b.2.entries) c.self.view_is stays.visited.entries

pub returns-in_err-published-clause-missed : goal.returns-in_err-published-clause-missed
returns-in_err-published-clause-missed g c =
    let a = c.self.inside.ticket in
    let b = c.meet.new.ticket in
    let stays = stays_trans a c.publish-published.new.ticket b c.publish-published.ensures.stays c.meet.ensures.stays in
    stays.visited.missed ∙ ap (λ (v : Shown). v.2.missed) c.self.view_is

pub returns-in_err-published-clause-receipt : goal.returns-in_err-published-clause-receipt
returns-in_err-published-clause-receipt g c =
    let a = c.self.inside.ticket in
    let b = c.meet.new.ticket in
    let stays = stays_trans a c.publish-published.new.ticket b c.publish-published.ensures.stays c.meet.ensures.stays in
    keeps_receipt _ c.from_residual.result c.args.self.now.2 c.meet.new.ticket.2 c.from_residual.ensures.1 (stays.visited.given ∙ ap (λ (v : Shown). v.2.given) c.self.view_is)
