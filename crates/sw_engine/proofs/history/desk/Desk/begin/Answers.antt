use Rattle.std.proofs.Common.{◌≡◌, ℕ, List, ◌++◌, set, false, Some, None, sym, ap, ◌∙◌, subst}
use Rattle.sw_table.specs.declared.row.Update.{Update}
use Rattle.sw_query.specs.declared.query.Call.TheVariants.{Select}
use Rattle.sw_spine.specs.Books.{Books, took}
use Rattle.sw_spine.specs.Receivable.{AreUpdates}
use Rattle.sw_engine.specs.Desk.{received_by}
use Rattle.sw_engine.specs.Sessions.{Begins, Standing, standing}
use Rattle.sw_engine.proofs.Ties.{all_taken, begin_tied, head_below, is_of_same, waits_is}
use Rattle.sw_engine.proofs.Visits.{Moves, begins_by, desk_moved, grows_visited, held_visited, moves_open}
use Rattle.sw_engine.proofs.AtRest.{all_updates}
use Rattle.sw_engine.proofs.history.desk.Desk.begin.Goals as goal

pub begin-requires-clause-rest : goal.begin-requires-clause-rest
begin-requires-clause-rest g c =
    let s = c.self.inside in
    let t = c.session.inside in
    waits_is s.spine s.sessions.rows s.heads.rows t.share.number t.number t.share.value None c.self.invariant.tied c.agree.ensures.value c.session.invariant.1 (ap (λ (v : Standing). v.waits) c.session.view_is ∙ c.requires.rest)

pub begin-requires-clause-head : goal.begin-requires-clause-head
begin-requires-clause-head g c =
    let s = c.self.inside in
    let m = c.head.inside.share in
    head_below s.spine m.value s.sessions.rows s.heads.rows m.number c.head.inside.number c.self.invariant.tied c.agree-2.ensures.value c.head.invariant.number_is

pub invariant_of-self-2 : goal.invariant_of-self-2
invariant_of-self-2 g c =
    let j = g.J.Naming in
    let s = c.self.inside in
    let t = c.session.inside in
    let h = t.share in
    let held = c.session.invariant in
    let x = c.begin.new.self in
    let m : Moves j.limit j.opening t.number s.spine x = moves_open j.limit j.opening t.number c.args.query c.head.inside.number s.spine x c.in_ok-begin.ensures.begun c.begin.ensures.updates c.self.invariant.ends in
    let mark = c.head.inside.share in
    let same = c.agree.ensures.same in
    let alike = c.agree-2.ensures.same in
    let rows : c.set.new.self.rows ≡ set s.sessions.rows h.number (c.of.result.value, false) = c.set.ensures.rows ∙ (λ i. set (same.0 i).rows (same.1 i).number (c.of.result.value, false)) in
    let heads : c.set-2.new.self.rows ≡ set s.heads.rows mark.number (c.of-2.result.value, false) = c.set-2.ensures.rows ∙ (λ i. set (alike.0 i).rows (alike.1 i).number (c.of-2.result.value, false)) in
    let tied = begin_tied s.spine x s.sessions.rows c.set.new.self.rows s.heads.rows c.set-2.new.self.rows h.number t.number mark.number c.head.inside.number c.of.result.value c.of-2.result.value c.self.invariant.tied held.1 c.head.invariant.number_is c.begin.ensures.others m.own c.begin.ensures.heads m.sessions_are c.of.ensures c.of-2.ensures rows heads in
    desk_moved j.sessions j.heads j.columns j.opening j.limit j.most s.spine x s.many s.most s.sessions s.heads c.set.new.self c.set-2.new.self t.number h.number c.of.result.value c.self.invariant m
    (c.set.ensures.name.0 ∙ ap (λ b. b.name) same.0) (c.set-2.ensures.name.0 ∙ ap (λ b. b.name) alike.0) rows c.of.ensures tied

pub invariant_of-session-2 : goal.invariant_of-session-2
invariant_of-session-2 g c =
    let j = g.J.Naming in
    let s = c.self.inside in
    let t = c.session.inside in
    let h = t.share in
    let held = c.session.invariant in
    let x = c.begin.new.self in
    let m : Moves j.limit j.opening t.number s.spine x = moves_open j.limit j.opening t.number c.args.query c.head.inside.number s.spine x c.in_ok-begin.ensures.begun c.begin.ensures.updates c.self.invariant.ends in
    let same = c.agree.ensures.same in
    held_visited j.sessions j.heads j.columns j.opening j.limit j.most s.spine x s.many s.most s.sessions s.heads t.number h c.set.new.share t.receipt c.self.invariant m held c.agree.ensures.value
    (c.set.ensures.name.1 ∙ ap (λ b. b.name) same.1)
    (c.set.ensures.number ∙ ap (λ b. b.number) same.1) (c.set.ensures.value ∙ c.of.ensures)

pub invariant_of-head-2 : goal.invariant_of-head-2
invariant_of-head-2 g c =
    let s = c.self.inside in
    let m = c.head.inside.share in
    let alike = c.agree-2.ensures.same in
    let all = all_taken s.spine m.value s.sessions.rows s.heads.rows m.number c.head.inside.number (received_by g.J.Naming.opening c.head.inside.head) c.head.inside.inbox.items c.begin.new.inbox.items c.self.invariant.tied c.agree-2.ensures.value c.head.invariant.number_is c.head.invariant.taken c.in_ok-begin.ensures.inbox in
    let limit : c.begin.new.self.limit ≡ g.J.Naming.limit = ap (λ (b : Books). b.limit) c.in_ok-begin.ensures.begun ∙ c.self.invariant.of.limit_is in record {
      named = c.set-2.ensures.name.1 ∙ ap (λ b. b.name) alike.1 ∙ c.head.invariant.named;
      number_is = c.set-2.ensures.number ∙ ap (λ b. b.number) alike.1 ∙ c.head.invariant.number_is;
      taken = all ∙ (sym c.in_ok-begin.ensures.took ∙ ap (took c.head.inside.number) (sym (c.set-2.ensures.value ∙ c.of-2.ensures)));
      most = c.head.invariant.most;
      may_come = subst (λ (l : ℕ). AreUpdates l (received_by g.J.Naming.opening c.head.inside.head ++ c.begin.new.inbox.items)) limit (subst (AreUpdates c.begin.new.self.limit) (c.begin.ensures.updates ∙ sym all) c.in_ok-begin.ensures.may_come);
      place = c.head.invariant.place;
      attribute = c.head.invariant.attribute;
      few = c.head.invariant.few;
      receipted = tt;
    }

pub returns-clause-begins : goal.returns-clause-begins
returns-clause-begins g c =
    let j = g.J.Naming in
    let s = c.self.inside in
    let t = c.session.inside in
    let h = t.share in
    let held = c.session.invariant in
    let x = c.begin.new.self in
    let m : Moves j.limit j.opening t.number s.spine x = moves_open j.limit j.opening t.number c.args.query c.head.inside.number s.spine x c.in_ok-begin.ensures.begun c.begin.ensures.updates c.self.invariant.ends in
    let mark = c.head.inside.share in
    let new : c.set.new.share.value ≡ x = c.set.ensures.value ∙ c.of.ensures in
    let grows = grows_visited j.sessions j.heads j.columns j.opening j.limit j.most s.spine x s.many s.most s.sessions s.heads t.number h.number h.value c.set.new.share.value c.self.invariant m c.agree.ensures.value new in
    let us = received_by j.opening c.head.inside.head ++ c.begin.new.inbox.items in
    let all = all_taken s.spine mark.value s.sessions.rows s.heads.rows mark.number c.head.inside.number (received_by j.opening c.head.inside.head) c.head.inside.inbox.items c.begin.new.inbox.items c.self.invariant.tied c.agree-2.ensures.value c.head.invariant.number_is c.head.invariant.taken c.in_ok-begin.ensures.inbox in
    let none = waits_is s.spine s.sessions.rows s.heads.rows h.number t.number h.value None c.self.invariant.tied c.agree.ensures.value held.1 (ap (λ (v : Standing). v.waits) c.session.view_is ∙ c.requires.rest) in
    subst (λ (v : Standing). Begins c.args.query us v (standing j.opening t.number c.set.new.share.value t.receipt t.misses)) c.session.view_is
    (begins_by j.opening t.number c.args.query c.head.inside.number us s.spine x h.value c.set.new.share.value s.sessions.rows s.heads.rows h.number t.receipt t.misses c.self.invariant.tied c.agree.ensures.value held.1 grows none c.in_ok-begin.ensures.begun c.begin.ensures.mine
    (c.in_ok-begin.ensures.waits ∙ ap (λ (l : List Update). Some (Select c.args.query, l)) (sym all)) new)

pub returns-clause-taken : goal.returns-clause-taken
returns-clause-taken g c =
    let j = g.J.Naming in
    let s = c.self.inside in
    let m = c.head.inside.share in
    let x = c.begin.new.self in
    let done = c.in_ok-begin.ensures.begun in
    let all = all_taken s.spine m.value s.sessions.rows s.heads.rows m.number c.head.inside.number (received_by j.opening c.head.inside.head) c.head.inside.inbox.items c.begin.new.inbox.items c.self.invariant.tied c.agree-2.ensures.value c.head.invariant.number_is c.head.invariant.taken c.in_ok-begin.ensures.inbox in
    all ∙ (sym c.begin.ensures.updates ∙ all_updates j.columns j.opening j.limit x (is_of_same j.columns j.opening j.limit s.spine x c.self.invariant.of (ap (λ (b : Books). b.columns) done) (ap (λ (b : Books). b.rows) done) (ap (λ (b : Books). b.limit) done)))
