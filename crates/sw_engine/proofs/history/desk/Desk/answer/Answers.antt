use Rattle.std.proofs.Common.{◌≡◌, ◌≤◌, ℕ, [], length, set, false, None, sym, ap, ◌∙◌, subst}
use Rattle.std.proofs.lemmas.List.{append-nil}
use Rattle.sw_query.specs.declared.query.Call.TheVariants.{Select}
use Rattle.sw_spine.specs.Books.{updates, waits_for}
use Rattle.sw_engine.specs.Desk.{DeskState}
use Rattle.sw_engine.specs.Published.{reply_after, session_shown}
use Rattle.sw_engine.specs.Sessions.{Answers, Standing}
use Rattle.sw_engine.proofs.AtRest.{reply_is}
use Rattle.sw_engine.proofs.Ties.{waits_is}
use Rattle.sw_engine.proofs.Visits.{Moves, answers_by, desk_visited, grows_visited, held_visited, moves_answered}
use Rattle.sw_engine.proofs.history.desk.Desk.answer.Goals as goal

pub answer-requires-clause-rest : goal.answer-requires-clause-rest
answer-requires-clause-rest g c =
    let s = c.self.inside in
    let t = c.session.inside in
    waits_is s.spine s.sessions.rows s.heads.rows t.share.number t.number t.share.value None c.self.invariant.tied c.agree.ensures.value c.session.invariant.1 (ap (λ (v : Standing). v.waits) c.session.view_is ∙ c.requires.rest)

pub answer-requires-clause-reply : goal.answer-requires-clause-reply
answer-requires-clause-reply g c =
    let j = g.J.Naming in
    let k = Select c.args.query in
    reply_is j.columns j.opening j.limit c.self.inside.spine k c.args.reply c.self.invariant.of (c.requires.reply ∙ ap (λ (d : DeskState). reply_after j.limit j.opening d.books.entries k) (sym c.self.view_is))

pub invariant_of-self-2 : goal.invariant_of-self-2
invariant_of-self-2 g c =
    let j = g.J.Naming in
    let s = c.self.inside in
    let t = c.session.inside in
    let h = t.share in
    let held = c.session.invariant in
    let x = c.answer.new.self in
    let m : Moves j.limit j.opening t.number s.spine x = moves_answered j.limit j.opening t.number (Select c.args.query) s.spine x [] c.in_ok-answer.ensures.answered (c.answer.ensures.updates ∙ sym (append-nil (updates s.spine))) (subst (λ (n : ℕ). n ≤ length (updates s.spine)) c.published-count.ensures.value c.published-count.ensures.count.high) c.self.invariant.ends in
    let same = c.agree.ensures.same in
    desk_visited j.sessions j.heads j.columns j.opening j.limit j.most s.spine x s.many s.most s.sessions s.heads c.set.new.self t.number h.number c.of.result.value c.self.invariant m held.1 c.answer.ensures.others c.answer.ensures.taken
    (c.set.ensures.name.0 ∙ ap (λ b. b.name) same.0)
    (c.set.ensures.rows ∙ (λ i. set (same.0 i).rows (same.1 i).number (c.of.result.value, false))) c.of.ensures

pub invariant_of-session-2 : goal.invariant_of-session-2
invariant_of-session-2 g c =
    let j = g.J.Naming in
    let s = c.self.inside in
    let t = c.session.inside in
    let h = t.share in
    let held = c.session.invariant in
    let x = c.answer.new.self in
    let m : Moves j.limit j.opening t.number s.spine x = moves_answered j.limit j.opening t.number (Select c.args.query) s.spine x [] c.in_ok-answer.ensures.answered (c.answer.ensures.updates ∙ sym (append-nil (updates s.spine))) (subst (λ (n : ℕ). n ≤ length (updates s.spine)) c.published-count.ensures.value c.published-count.ensures.count.high) c.self.invariant.ends in
    let same = c.agree.ensures.same in
    held_visited j.sessions j.heads j.columns j.opening j.limit j.most s.spine x s.many s.most s.sessions s.heads t.number h c.set.new.share t.receipt c.self.invariant m held c.agree.ensures.value
    (c.set.ensures.name.1 ∙ ap (λ b. b.name) same.1)
    (c.set.ensures.number ∙ ap (λ b. b.number) same.1) (c.set.ensures.value ∙ c.of.ensures)

pub returns-clause-rest : goal.returns-clause-rest
returns-clause-rest g c = ap (waits_for c.session.inside.number) (c.set.ensures.value ∙ c.of.ensures) ∙ c.answer.ensures.rest

pub returns-clause-answers : goal.returns-clause-answers
returns-clause-answers g c =
    let j = g.J.Naming in
    let k = Select c.args.query in
    let s = c.self.inside in
    let t = c.session.inside in
    let h = t.share in
    let held = c.session.invariant in
    let x = c.answer.new.self in
    let m : Moves j.limit j.opening t.number s.spine x = moves_answered j.limit j.opening t.number k s.spine x [] c.in_ok-answer.ensures.answered (c.answer.ensures.updates ∙ sym (append-nil (updates s.spine))) (subst (λ (n : ℕ). n ≤ length (updates s.spine)) c.published-count.ensures.value c.published-count.ensures.count.high) c.self.invariant.ends in
    let new : c.set.new.share.value ≡ x = c.set.ensures.value ∙ c.of.ensures in
    let grows = grows_visited j.sessions j.heads j.columns j.opening j.limit j.most s.spine x s.many s.most s.sessions s.heads t.number h.number h.value c.set.new.share.value c.self.invariant m c.agree.ensures.value new in
    let told = reply_is j.columns j.opening j.limit s.spine k c.args.reply c.self.invariant.of (c.requires.reply ∙ ap (λ (d : DeskState). reply_after j.limit j.opening d.books.entries k) (sym c.self.view_is)) in
    subst (λ (v : Standing). Answers k c.args.reply v.shown (session_shown j.opening t.number c.set.new.share.value t.receipt t.misses)) c.session.view_is
    (answers_by j.opening t.number k c.args.reply s.spine x h.value c.set.new.share.value s.sessions.rows s.heads.rows h.number t.receipt t.misses c.self.invariant.tied c.agree.ensures.value held.1 grows told c.in_ok-answer.ensures.answered c.in_ok-answer.ensures.mine new)
