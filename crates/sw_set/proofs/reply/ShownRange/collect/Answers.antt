use Rattle.std.proofs.Common.{◌≡◌, sym, subst, List, All}
use Rattle.sw_query.specs.declared.query.Cond.{Cond}
use Rattle.sw_query.specs.declared.reply.Reply.{Reply}
use Rattle.sw_query.specs.declared.refusal.Refusal.{Refusal}
use Rattle.sw_query.specs.declared.refusal.Refusal.TheVariants.{NoMemory}
use Rattle.sw_table.specs.declared.row.Row.{Row}
use Rattle.sw_query.specs.Scan.{answer, meets_all}
use Rattle.sw_set.specs.Choice.{AreOf, RangeHasCells, chosen, further, range_rows, shown_rows}
use Rattle.sw_set.specs.Collected.{IsReplyOver}
use Rattle.sw_set.proofs.Replying.Answered.{range-matching, told-answer}
use Rattle.sw_set.proofs.Preparing.Needing.{conds-held, want-held}
use Rattle.sw_set.proofs.Replying.Told.{if-ok}
use Rattle.sw_set.proofs.reply.ShownRange.collect.Goals as goal

pub choose-requires-clause-cells : goal.choose-requires-clause-cells
choose-requires-clause-cells g c κs within =
    let q = c.args.query.now in
    subst (λ (v : List Cond). All (λ (e : Cond). RangeHasCells c.args.self.now e.attr) v) (sym c.as_slice.ensures)
    (conds-held c.args.self.now.head c.args.self.now.tape c.args.self.now.maps q.conds q.want c.requires.asks.conds c.requires.maps)

pub wanted-requires-clause-cells : goal.wanted-requires-clause-cells
wanted-requires-clause-cells g c κs within =
    let q = c.args.query.now in
    want-held c.args.self.now.head c.args.self.now.tape c.args.self.now.maps q.conds q.want c.requires.asks.want c.requires.maps

pub returns-clause-answered : goal.returns-clause-answered
returns-clause-answered g c =
    let q = c.args.query.now in
    let items = shown_rows c.args.self.now.head c.args.self.now.tape in
    let range = range_rows c.args.self.now in
    let o = c.in_ok-choice.choice.bits in
    let are = subst (λ (v : List Cond). AreOf (meets_all (further v)) range o) c.as_slice.ensures c.in_ok-choice.ensures.chosen in
    let same = range-matching q.conds items c.args.self.now.from c.args.self.now.upto o c.requires.run are in
    λ rows once rises.
    if-ok (IsReplyOver (chosen o range) q.want) (λ (r : Reply). r ≡ answer rows q) (λ (e : Refusal). e ≡ NoMemory) c.wanted.result
    (λ told h. told-answer q.conds q.want items rows told once rises (subst (λ (v : List Row). IsReplyOver v q.want told) same h))
    c.wanted.ensures.told
