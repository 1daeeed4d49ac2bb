use Rattle.std.proofs.Common.{◌≡◌, ◌∙◌, refl, sym, subst, List, length, IfOk}
use Rattle.sw_query.specs.declared.reply.Reply.{Reply}
use Rattle.sw_table.specs.declared.row.Row.{Row}
use Rattle.sw_query.specs.Scan.{answer}
use Rattle.sw_table.proofs.LiveLaws.{kept-fresh}
use Rattle.sw_set.proofs.Areas.LiveStandings.{live-load}
use Rattle.sw_set.proofs.area.live.LiveRows.scan.Goals as goal

pub returns-then-is_load-clause-answered : goal.returns-then-is_load-clause-answered
returns-then-is_load-clause-answered c =
    let h = c.is_load.ensures.0 c.if-is_load.true in
    let same = live-load c.args.load.now.items c.args.self.now c.requires.many h.0 h.1 in
    let all = kept-fresh (length c.args.load.now.items) c.args.load.now.items refl in
    subst (λ (v : List Row). IfOk c.scan.result (λ (r : Reply). r ≡ answer v c.args.query.now)) (all ∙ sym same) c.scan.ensures.answered
