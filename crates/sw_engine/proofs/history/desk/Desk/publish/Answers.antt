use Rattle.std.proofs.Common.{◌≡◌, ◌≤◌, set, false, None, sym, ap, ◌∙◌, subst}
use Rattle.sw_spine.specs.History.{mine}
use Rattle.sw_spine.specs.Books.{Books, KeepsOthers, KeepsTaken, took, waits_for}
use Rattle.sw_engine.specs.Desk.{DeskState}
use Rattle.sw_engine.specs.Published.{EndsEntry, session_shown}
use Rattle.sw_engine.specs.Sessions.{Sees, Standing, Stays}
use Rattle.sw_engine.proofs.Ties.{waits_is}
use Rattle.sw_engine.proofs.Visits.{Moves, desk_visited, grows_visited, held_visited, moves_published, stays_by}
use Rattle.sw_engine.proofs.history.desk.Desk.publish.Goals as goal

pub invariant_of-self : goal.invariant_of-self
invariant_of-self g c =
    let j = g.J.Naming in
    let s = c.self.inside in
    let t = c.session.inside in
    let h = t.share in
    let held = c.session.invariant in
    let x = c.set_published.new.self in
    let low : s.spine.published ≤ c.args.count = subst (λ (d : DeskState). d.books.published ≤ c.args.count) (sym c.self.view_is) c.requires.low in
    let ends = subst (λ (d : DeskState). EndsEntry j.limit j.opening d.books.entries c.args.count) (sym c.self.view_is) c.requires.ends in
    let m : Moves j.limit j.opening t.number s.spine x = moves_published j.limit j.opening t.number c.args.count s.spine x c.set_published.ensures low ends in
    let done = c.set_published.ensures in
    let same = c.agree.ensures.same in
    let others : KeepsOthers t.number s.spine x = record {
      mine = λ n apart. ap (λ (b : Books). mine n b.entries) done;
      waits = λ n apart. ap (λ (b : Books). waits_for n b) done;
    } in
    let taken : KeepsTaken s.spine x = λ head less. ap (λ (b : Books). took head b) done in
    desk_visited j.sessions j.heads j.columns j.opening j.limit j.most s.spine x s.many s.most s.sessions s.heads c.set.new.self t.number h.number c.of.result.value c.self.invariant m held.1 others taken
    (c.set.ensures.name.0 ∙ ap (λ b. b.name) same.0)
    (c.set.ensures.rows ∙ (λ i. set (same.0 i).rows (same.1 i).number (c.of.result.value, false))) c.of.ensures

pub invariant_of-session : goal.invariant_of-session
invariant_of-session g c =
    let j = g.J.Naming in
    let s = c.self.inside in
    let t = c.session.inside in
    let h = t.share in
    let held = c.session.invariant in
    let x = c.set_published.new.self in
    let low : s.spine.published ≤ c.args.count = subst (λ (d : DeskState). d.books.published ≤ c.args.count) (sym c.self.view_is) c.requires.low in
    let ends = subst (λ (d : DeskState). EndsEntry j.limit j.opening d.books.entries c.args.count) (sym c.self.view_is) c.requires.ends in
    let m : Moves j.limit j.opening t.number s.spine x = moves_published j.limit j.opening t.number c.args.count s.spine x c.set_published.ensures low ends in
    let same = c.agree.ensures.same in
    held_visited j.sessions j.heads j.columns j.opening j.limit j.most s.spine x s.many s.most s.sessions s.heads t.number h c.set.new.share t.receipt c.self.invariant m held c.agree.ensures.value
    (c.set.ensures.name.1 ∙ ap (λ b. b.name) same.1)
    (c.set.ensures.number ∙ ap (λ b. b.number) same.1) (c.set.ensures.value ∙ c.of.ensures)

pub returns-clause-rest : goal.returns-clause-rest
returns-clause-rest g c =
    let s = c.self.inside in
    let t = c.session.inside in
    ap (waits_for t.number) (c.set.ensures.value ∙ c.of.ensures ∙ c.set_published.ensures)
    ∙ waits_is s.spine s.sessions.rows s.heads.rows t.share.number t.number t.share.value None c.self.invariant.tied c.agree.ensures.value c.session.invariant.1 (ap (λ (v : Standing). v.waits) c.session.view_is ∙ c.requires.rest)

pub returns-clause-stays : goal.returns-clause-stays
returns-clause-stays g c =
    let j = g.J.Naming in
    let s = c.self.inside in
    let t = c.session.inside in
    let h = t.share in
    let held = c.session.invariant in
    let x = c.set_published.new.self in
    let low : s.spine.published ≤ c.args.count = subst (λ (d : DeskState). d.books.published ≤ c.args.count) (sym c.self.view_is) c.requires.low in
    let ends = subst (λ (d : DeskState). EndsEntry j.limit j.opening d.books.entries c.args.count) (sym c.self.view_is) c.requires.ends in
    let m : Moves j.limit j.opening t.number s.spine x = moves_published j.limit j.opening t.number c.args.count s.spine x c.set_published.ensures low ends in
    let new : c.set.new.share.value ≡ x = c.set.ensures.value ∙ c.of.ensures in
    let grows = grows_visited j.sessions j.heads j.columns j.opening j.limit j.most s.spine x s.many s.most s.sessions s.heads t.number h.number h.value c.set.new.share.value c.self.invariant m c.agree.ensures.value new in
    subst (λ (v : Standing). Stays v.shown (session_shown j.opening t.number c.set.new.share.value t.receipt t.misses)) c.session.view_is
    (stays_by j.opening t.number s.spine x h.value c.set.new.share.value s.sessions.rows s.heads.rows h.number t.receipt t.misses c.self.invariant.tied c.agree.ensures.value held.1 grows (ap (λ (b : Books). b.entries) c.set_published.ensures) new)

pub returns-clause-sees : goal.returns-clause-sees
returns-clause-sees g c =
    let j = g.J.Naming in
    let t = c.session.inside in
    subst (λ (v : Standing). Sees j.opening c.set_published.new.self v.shown (session_shown j.opening t.number c.set.new.share.value t.receipt t.misses)) c.session.view_is
    (ap (λ (b : Books). session_shown j.opening t.number b t.receipt t.misses) (c.set.ensures.value ∙ c.of.ensures))
