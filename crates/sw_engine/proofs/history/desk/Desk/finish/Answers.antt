use Rattle.std.proofs.Common.{◌≡◌, ℕ, List, set, false, Option, refl, sym, ap, ◌∙◌, subst}
use Rattle.std.specs.Prelude.{IsSomeAnd}
use Rattle.sw_spine.specs.Table.{reply_to}
use Rattle.sw_table.specs.declared.row.Update.{Update}
use Rattle.sw_query.specs.declared.query.Call.{Call}
use Rattle.sw_spine.specs.Books.{waits_for}
use Rattle.sw_spine.specs.declared.history.State.TheVariants as state
use Rattle.sw_engine.specs.Sessions.{Settles, Standing, standing}
use Rattle.sw_engine.proofs.Ties.{waits_is}
use Rattle.sw_engine.proofs.Visits.{Moves, desk_visited, grows_visited, held_visited, moves_settled, settles_by}
use Rattle.sw_engine.proofs.history.desk.Desk.finish.Goals as goal

pub finish-requires-clause-reply : goal.finish-requires-clause-reply
finish-requires-clause-reply g c =
    let j = g.J.Naming in
    let s = c.self.inside in
    let t = c.session.inside in
    let n = t.number in
    let is : waits_for n s.spine ≡ c.args.session.now.waits = waits_is s.spine s.sessions.rows s.heads.rows t.share.number n t.share.value (waits_for n t.share.value) c.self.invariant.tied c.agree.ensures.value c.session.invariant.1 refl ∙ ap (λ (v : Standing). v.waits) c.session.view_is in
    subst (λ (l : ℕ). IsSomeAnd (waits_for n s.spine) (λ w. c.args.reply ≡ reply_to l w.1 w.0)) (sym c.self.invariant.of.limit_is)
    (subst (λ (w : Option (Call × List Update)). IsSomeAnd w (λ o. c.args.reply ≡ reply_to j.limit o.1 o.0)) (sym is) c.requires)

pub invariant_of-self : goal.invariant_of-self
invariant_of-self g c =
    let j = g.J.Naming in
    let s = c.self.inside in
    let t = c.session.inside in
    let h = t.share in
    let held = c.session.invariant in
    let m : Moves j.limit j.opening t.number s.spine c.finish.new.self = moves_settled j.limit j.opening t.number (state.Answered c.args.reply) s.spine c.finish.new.self c.finish.ensures.finished c.finish.ensures.updates c.self.invariant.ends in
    let same = c.agree.ensures.same in
    desk_visited j.sessions j.heads j.columns j.opening j.limit j.most s.spine c.finish.new.self s.many s.most s.sessions s.heads c.set.new.self t.number h.number c.of.result.value c.self.invariant m held.1 c.finish.ensures.others c.finish.ensures.taken
    (c.set.ensures.name.0 ∙ ap (λ b. b.name) same.0)
    (c.set.ensures.rows ∙ (λ i. set (same.0 i).rows (same.1 i).number (c.of.result.value, false))) c.of.ensures

pub invariant_of-session : goal.invariant_of-session
invariant_of-session g c =
    let j = g.J.Naming in
    let s = c.self.inside in
    let t = c.session.inside in
    let h = t.share in
    let held = c.session.invariant in
    let m : Moves j.limit j.opening t.number s.spine c.finish.new.self = moves_settled j.limit j.opening t.number (state.Answered c.args.reply) s.spine c.finish.new.self c.finish.ensures.finished c.finish.ensures.updates c.self.invariant.ends in
    let same = c.agree.ensures.same in
    held_visited j.sessions j.heads j.columns j.opening j.limit j.most s.spine c.finish.new.self s.many s.most s.sessions s.heads t.number h c.set.new.share t.receipt c.self.invariant m held c.agree.ensures.value
    (c.set.ensures.name.1 ∙ ap (λ b. b.name) same.1)
    (c.set.ensures.number ∙ ap (λ b. b.number) same.1) (c.set.ensures.value ∙ c.of.ensures)

pub returns-clause-settles : goal.returns-clause-settles
returns-clause-settles g c =
    let j = g.J.Naming in
    let s = c.self.inside in
    let t = c.session.inside in
    let h = t.share in
    let held = c.session.invariant in
    let m : Moves j.limit j.opening t.number s.spine c.finish.new.self = moves_settled j.limit j.opening t.number (state.Answered c.args.reply) s.spine c.finish.new.self c.finish.ensures.finished c.finish.ensures.updates c.self.invariant.ends in
    let new : c.set.new.share.value ≡ c.finish.new.self = c.set.ensures.value ∙ c.of.ensures in
    let grows = grows_visited j.sessions j.heads j.columns j.opening j.limit j.most s.spine c.finish.new.self s.many s.most s.sessions s.heads t.number h.number h.value c.set.new.share.value c.self.invariant m c.agree.ensures.value new in
    subst (λ (v : Standing). Settles (state.Answered c.args.reply) v (standing j.opening t.number c.set.new.share.value t.receipt t.misses)) c.session.view_is
    (settles_by j.opening t.number (state.Answered c.args.reply) s.spine c.finish.new.self h.value c.set.new.share.value s.sessions.rows s.heads.rows h.number t.receipt t.misses c.self.invariant.tied c.agree.ensures.value held.1 grows c.finish.ensures.finished c.finish.ensures.mine c.finish.ensures.rest new)
