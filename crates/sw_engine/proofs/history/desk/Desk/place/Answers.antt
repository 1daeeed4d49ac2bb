use Rattle.std.proofs.Common.{sym, subst, List}
use Rattle.sw_spine.specs.declared.history.Entry.{Entry}
use Rattle.sw_engine.specs.Own.{IsLastOwn}
use Rattle.sw_engine.specs.Sessions.{Standing}
use Rattle.sw_engine.proofs.Placed.{place_back}
use Rattle.sw_engine.proofs.Ties.{shown_is}
use Rattle.sw_engine.proofs.history.desk.Desk.place.Goals as goal

pub returns-clause-place : goal.returns-clause-place
returns-clause-place g c =
    let s = c.self.inside in
    let h = c.session.inside.share in
    let n = c.session.inside.number in
    let is = shown_is s.spine s.sessions.rows s.heads.rows h.number n h.value c.self.invariant.tied c.agree.ensures.value c.session.invariant.1 in
    subst (λ (v : Standing). IsLastOwn v.shown.0 v.shown.2.entries c.last_of.result) c.session.view_is
    (place_back n h.value.entries s.spine.entries c.last_of.result is.3 (sym is.2) (subst (λ (es : List Entry). IsLastOwn n es c.last_of.result) c.entries.ensures.entries c.last_of.ensures))
