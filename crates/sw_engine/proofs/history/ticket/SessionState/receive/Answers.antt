use Rattle.std.proofs.Common.{ap, refl, subst, sym, ◌∙◌}
use mathlib.Core.List.{IsPrefix}
use Rattle.sw_engine.specs.Published.{published_of, session_shown}
use Rattle.sw_engine.specs.Sessions.{Receives, Standing}
use Rattle.sw_engine.proofs.Published.{begins_longer, prefix_same}
use Rattle.sw_engine.proofs.history.ticket.SessionState.receive.Goals as goal

pub invariant_of-self : goal.invariant_of-self
invariant_of-self g c =
    let i = c.self.invariant in
    let s = c.self.inside in
    let is = c.requires ∙ ap (λ (v : Standing). v.shown.2.published) (sym c.self.view_is) in
    (i.0, i.1, prefix_same _ _ is, i.3)

pub returns-clause-received : goal.returns-clause-received
returns-clause-received g c =
    let s = c.self.inside in
    let j = g.J.Naming in
    let p = published_of j.opening s.share.value in
    let is = c.requires ∙ ap (λ (v : Standing). v.shown.2.published) (sym c.self.view_is) in
    let longer : IsPrefix s.receipt c.args.published = begins_longer c.begins-begins.result s.receipt c.args.published p p c.begins-begins.ensures c.self.invariant.2 (prefix_same p p refl) is in
    subst (λ (v : Standing). Receives c.args.published v.shown (session_shown j.opening s.number s.share.value c.args.published s.misses)) c.self.view_is (refl, longer)
