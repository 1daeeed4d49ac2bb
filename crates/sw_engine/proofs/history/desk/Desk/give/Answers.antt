use Rattle.std.proofs.Common.{None, ◌≡◌, ◌+◌, Bool, length, set, true, false, map, sym, ap, ◌∙◌, subst}
use Rattle.std.specs.Prelude.{slice_get}
use Rattle.sw_spine.specs.History.{mine}
use Rattle.sw_spine.specs.Books.{Books, waits_for}
use Rattle.sw_engine.specs.Desk.{DeskState}
use Rattle.sw_engine.specs.Own.{IsEnded}
use Rattle.sw_engine.specs.Published.{Shown, session_shown}
use Rattle.sw_engine.specs.Sessions.{Standing}
use Rattle.sw_engine.proofs.Published.{behind_give}
use Rattle.sw_engine.proofs.Ties.{give_tied, length_set, map_get, map_set, mine_is, shown_is, waits_is}
use Rattle.sw_engine.proofs.history.desk.Desk.give.Goals as goal

pub returns-clause-mine : goal.returns-clause-mine
returns-clause-mine g c =
    let s = c.self.inside in
    let t = c.session.inside in
    let seen = ap (λ (v : Standing). v.shown) c.session.view_is in
    let had = c.self.view_is in
    (λ i. mine (sym seen i).0 (sym had i).books.entries) ∙ mine_is s.spine s.sessions.rows s.heads.rows t.share.number t.number t.share.value c.self.invariant.tied c.give.ensures.value c.session.invariant.1 ∙ ap (λ p. p.1) seen

pub returns-clause-rest : goal.returns-clause-rest
returns-clause-rest g c =
    let s = c.self.inside in
    let t = c.session.inside in
    let seen = ap (λ (v : Standing). v.shown) c.session.view_is in
    let had = c.self.view_is in
    (λ i. waits_for (sym seen i).0 (sym had i).books) ∙ waits_is s.spine s.sessions.rows s.heads.rows t.share.number t.number t.share.value None c.self.invariant.tied c.give.ensures.value c.session.invariant.1 (ap (λ (v : Standing). v.waits) c.session.view_is ∙ c.requires)

pub returns-clause-given : goal.returns-clause-given
returns-clause-given g c =
    let s = c.self.inside in
    let t = c.session.inside in
    let number : c.args.session.shown.0 ≡ t.share.number + 1 = ap (λ (v : Standing). v.shown.0) (sym c.session.view_is) ∙ c.session.invariant.1 in
    let flags : map (λ (r : Books × Bool). r.1) s.sessions.rows ≡ c.args.self.now.given = ap (λ (v : DeskState). v.given) c.self.view_is in (
      t.share.number,
      number,
      (λ i. slice_get (sym flags i) t.share.number) ∙ map_get (λ (r : Books × Bool). r.1) s.sessions.rows t.share.number (t.share.value, false) c.give.ensures.value,
      sym (ap (map (λ (r : Books × Bool). r.1)) c.give.ensures.rows ∙ map_set (λ (r : Books × Bool). r.1) s.sessions.rows t.share.number (t.share.value, true) ∙ (λ i. set (flags i) t.share.number true)),
    )

pub returns-clause-ended : goal.returns-clause-ended
returns-clause-ended g c =
    let s = c.self.inside in
    let t = c.session.inside in
    let shows : Shown = session_shown g.J.Naming.opening t.number t.share.value t.receipt t.misses in
    let is = shown_is s.spine s.sessions.rows s.heads.rows t.share.number t.number t.share.value c.self.invariant.tied c.give.ensures.value c.session.invariant.1 in
    let here : IsEnded s.spine.entries shows = record { own = sym is.2; begun = is.3 } in
    subst (λ (v : Shown). IsEnded c.args.self.now.books.entries v) (ap (λ (v : Standing). v.shown) c.session.view_is) (subst (λ (d : DeskState). IsEnded d.books.entries shows) c.self.view_is here)

pub invariant_of-self : goal.invariant_of-self
invariant_of-self g c =
    let s = c.self.inside in
    let t = c.session.inside in
    let was = c.give.ensures.value in
    let rows = c.give.ensures.rows in record {
      sessions_named = c.give.ensures.name ∙ c.self.invariant.sessions_named;
      heads_named = c.self.invariant.heads_named;
      many_are = c.self.invariant.many_are ∙ sym (ap length rows ∙ length_set s.sessions.rows t.share.number (t.share.value, true));
      of = c.self.invariant.of;
      tied = give_tied s.spine s.sessions.rows c.give.new.self.rows s.heads.rows t.share.number t.share.value c.self.invariant.tied was rows;
      behind = behind_give g.J.Naming.limit g.J.Naming.opening s.spine s.sessions.rows c.give.new.self.rows t.share.number t.share.value c.self.invariant.behind was rows;
      ends = c.self.invariant.ends;
      most_is = c.self.invariant.most_is;
      few = c.self.invariant.few;
      within = c.self.invariant.within;
    }
