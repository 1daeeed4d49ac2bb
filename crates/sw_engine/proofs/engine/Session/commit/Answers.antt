use Rattle.std.proofs.Common.{◌++◌, ◌∷◌, [], ap, subst, sym, ◌∙◌}
use mathlib.Core.List.{IsPrefix}
use Rattle.sw_spine.specs.declared.history.State.TheVariants.{Answered}
use Rattle.sw_versions.specs.Rules.{updates_in}
use Rattle.sw_engine.specs.Later.{Begin}
use Rattle.sw_engine.specs.Own.{own_of}
use Rattle.sw_engine.specs.Published.{Shown}
use Rattle.sw_engine.proofs.Called.{commit_stays, keeps_receipt, on_err, received}
use Rattle.sw_engine.proofs.engine.Session.commit.Goals as goal

pub returns-clause-number : goal.returns-clause-number
returns-clause-number g c =
    let a = c.self.inside.ticket in
    let b = c.commit.new.ticket in
    let d = c.receive.new.self in
    let told = c.in_ok-reply.ensures in
    let is = received c.in_ok-reply.published a b d told.answers.visited c.receive.ensures in
    is.number ∙ ap (λ (v : Shown). v.0) c.self.view_is

pub returns-clause-mine : goal.returns-clause-mine
returns-clause-mine g c =
    let a = c.self.inside.ticket in
    let b = c.commit.new.ticket in
    let d = c.receive.new.self in
    let told = c.in_ok-reply.ensures in
    let is = received c.in_ok-reply.published a b d told.answers.visited c.receive.ensures in
    is.calls ∙ told.answers.calls ∙ ap (λ (v : Shown). v.1 ++ (c.args.call, c.in_ok-reply.reply) ∷ []) c.self.view_is

pub returns-clause-own : goal.returns-clause-own
returns-clause-own g c =
    let a = c.self.inside.ticket in
    let b = c.commit.new.ticket in
    let d = c.receive.new.self in
    let told = c.in_ok-reply.ensures in
    let is = received c.in_ok-reply.published a b d told.answers.visited c.receive.ensures in
    is.own ∙ told.answers.own ∙ ap (λ (v : Shown). own_of v ++ (c.args.call, Answered c.in_ok-reply.reply) ∷ []) c.self.view_is

pub returns-clause-grows : goal.returns-clause-grows
returns-clause-grows g c =
    let a = c.self.inside.ticket in
    let b = c.commit.new.ticket in
    let d = c.receive.new.self in
    let told = c.in_ok-reply.ensures in
    let is = received c.in_ok-reply.published a b d told.answers.visited c.receive.ensures in
    subst (λ (v : Shown). Begin v.2.entries d.2.entries) c.self.view_is is.grows

pub returns-clause-receipt : goal.returns-clause-receipt
returns-clause-receipt g c =
    let a = c.self.inside.ticket in
    let b = c.commit.new.ticket in
    let d = c.receive.new.self in
    let told = c.in_ok-reply.ensures in
    let is = received c.in_ok-reply.published a b d told.answers.visited c.receive.ensures in
    (ap updates_in is.given ∙ told.told ∙ sym is.published, subst (λ (v : Shown). IsPrefix v.2.given d.2.given) c.self.view_is is.longer)

pub returns-clause-missed : goal.returns-clause-missed
returns-clause-missed g c =
    let a = c.self.inside.ticket in
    let b = c.commit.new.ticket in
    let d = c.receive.new.self in
    let told = c.in_ok-reply.ensures in
    let is = received c.in_ok-reply.published a b d told.answers.visited c.receive.ensures in
    is.missed ∙ ap (λ (v : Shown). v.2.missed) c.self.view_is

pub returns-in_err-reply-clause-number : goal.returns-in_err-reply-clause-number
returns-in_err-reply-clause-number g c =
    let stays = c.in_err-reply.ensures.refused.0 in
    stays.visited.number ∙ ap (λ (v : Shown). v.0) c.self.view_is

pub returns-in_err-reply-clause-err : goal.returns-in_err-reply-clause-err
returns-in_err-reply-clause-err g c =
    let stays = c.in_err-reply.ensures.refused.0 in
    on_err c.from_residual.result (stays.calls ∙ ap (λ (v : Shown). v.1) c.self.view_is)

pub returns-in_err-reply-clause-own : goal.returns-in_err-reply-clause-own
returns-in_err-reply-clause-own g c =
    let stays = c.in_err-reply.ensures.refused.0 in
    commit_stays _ c.args.call c.from_residual.result c.args.self.now c.commit.new.ticket c.from_residual.ensures.1 (stays.own ∙ ap own_of c.self.view_is)

pub returns-in_err-reply-clause-grows : goal.returns-in_err-reply-clause-grows
returns-in_err-reply-clause-grows g c =
    let stays = c.in_err-reply.ensures.refused.0 in
    subst (λ (v : Shown). Begin v.2.entries c.commit.new.ticket.2.entries) c.self.view_is stays.visited.entries

pub returns-in_err-reply-clause-receipt : goal.returns-in_err-reply-clause-receipt
returns-in_err-reply-clause-receipt g c =
    let stays = c.in_err-reply.ensures.refused.0 in
    keeps_receipt _ c.from_residual.result c.args.self.now.2 c.commit.new.ticket.2 c.from_residual.ensures.1 (stays.visited.given ∙ ap (λ (v : Shown). v.2.given) c.self.view_is)

pub returns-in_err-reply-clause-missed : goal.returns-in_err-reply-clause-missed
returns-in_err-reply-clause-missed g c =
    let stays = c.in_err-reply.ensures.refused.0 in
    stays.visited.missed ∙ ap (λ (v : Shown). v.2.missed) c.self.view_is
