use Rattle.std.proofs.Common.{◌≡◌, ◌<◌, ◌≤◌, ◌+◌, ◌∙◌, length, get_or, take, sym, ap, subst, rules}
use Rattle.sw_spine.specs.Table.{opened, reply_to, updates_then}
use Rattle.sw_spine.specs.History.{CallsBelow, History, updates_after}
use Rattle.sw_spine.specs.Replays.{StandsAfter}
use Rattle.sw_spine.proofs.CheckLemmas.{below_at, expected_is, updates_more}
use Rattle.sw_spine.proofs.history.Record.expected_at.Goals as goal

pub make_call-requires : goal.make_call-requires
make_call-requires c =
    let s = c.self.inside in
    let lt : c.loop-i.i < length s.entries.items = search rules in
    let is : c.entry-item.result ≡ get_or s.entries.items c.loop-i.i c.entry-item.result = search rules in
    let below : CallsBelow (length s.schema) (get_or s.entries.items c.loop-i.i c.entry-item.result).call = below_at (length s.schema) s.entries.items c.loop-i.i c.entry-item.result c.self.invariant.below lt in
    record { asks = subst (CallsBelow (length s.schema)) (sym c.call.ensures) (subst (λ e. CallsBelow (length s.schema) e.call) (sym is) below) }

pub returns-then-i-place-clause-listed : goal.returns-then-i-place-clause-listed
returns-then-i-place-clause-listed c =
    let h : History = c.args.self.now in
    let e = c.entry-item.result in
    let us = updates_after h.limit (opened h.rows) (take c.loop-i.i h.entries) in
    let lt : c.loop-i.i < length h.entries = search rules in
    let is : e ≡ get_or h.entries c.loop-i.i e = search rules in
    expected_is h c.loop-i.i c.args.place e c.loop-i.replay.limit c.in_ok-reply.reply lt is c.loop-i.invariant.0 c.if-i-place.true ((c.in_ok-reply.ensures.made us c.loop-i.invariant.2).0 ∙ ap (λ k. reply_to c.loop-i.replay.limit us k) c.call.ensures)

pub loop-i-preserved : goal.loop-i-preserved
loop-i-preserved c =
    let h : History = c.args.self.now in
    let e = c.entry-item.result in
    let us = updates_after h.limit (opened h.rows) (take c.loop-i.i h.entries) in
    let lt : c.loop-i.i < length h.entries = search rules in
    let is : e ≡ get_or h.entries c.loop-i.i e = search rules in
    let stands : StandsAfter (updates_then h.limit us e.call) c.make_call.new.replay =
    subst (λ n. StandsAfter (updates_then n us e.call) c.make_call.new.replay) c.loop-i.invariant.0
    (subst (λ k. StandsAfter (updates_then c.loop-i.replay.limit us k) c.make_call.new.replay) c.call.ensures (c.in_ok-reply.ensures.made us c.loop-i.invariant.2).1) in
    let below : c.loop-i.i + 1 ≤ c.args.place = search rules in (
      c.make_call.ensures.limit ∙ c.loop-i.invariant.0,
      below,
      subst (λ vs. StandsAfter vs c.make_call.new.replay) (sym (updates_more h c.loop-i.i e lt is)) stands,
    )
