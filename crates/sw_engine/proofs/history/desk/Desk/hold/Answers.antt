use Rattle.std.proofs.Common.{ap, length, subst}
use Rattle.sw_engine.specs.Desk.{DeskState, IsMade}
use Rattle.sw_engine.specs.Published.{Shown, session_shown}
use Rattle.sw_engine.specs.Sessions.{Standing}
use Rattle.sw_engine.proofs.Closing.{is_made}
use Rattle.sw_engine.proofs.history.desk.Desk.hold.Goals as goal

pub returns-clause-made : goal.returns-clause-made
returns-clause-made g c =
    let s = c.self.inside in
    let t = c.session.inside in
    let shows : Shown = session_shown g.J.Naming.opening t.number t.share.value t.receipt t.misses in
    let is = is_made g.J.Naming.opening s.spine s.sessions.rows s.heads.rows t.share.number t.number t.share.value t.receipt t.misses c.self.invariant.tied c.agree.ensures.value c.session.invariant.1 in
    subst (λ (v : Shown). IsMade (length c.args.self.now.given) v) (ap (λ (v : Standing). v.shown) c.session.view_is) (subst (λ (d : DeskState). IsMade (length d.given) shows) c.self.view_is is)
