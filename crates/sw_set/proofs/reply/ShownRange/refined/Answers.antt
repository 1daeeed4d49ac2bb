use Rattle.std.proofs.Common.{◌∙◌, refl, get_or, None}
use Rattle.sw_query.specs.declared.query.Cond.{Cond}
use Rattle.sw_set.specs.Choice.{range_rows}
use Rattle.sw_set.proofs.Replying.Told.{all-true, refined-step}
use Rattle.sw_set.proofs.reply.ShownRange.refined.Goals as goal

pub loop-cond-init : goal.loop-cond-init
loop-cond-init g c =
    c.in_ok-bits.ensures ∙ all-true (range_rows c.args.self.now) c.len.result c.len.ensures

pub loop-cond-preserved : goal.loop-cond-preserved
loop-cond-preserved g c =
    let range = range_rows c.args.self.now in
    let none : Cond = record { attr = 0; lower = None; upper = None } in
    let at = get_or c.args.conds.now c.loop-cond.cond-index none in
    refined-step range c.args.conds.now c.loop-cond.cond-index at none c.loop-cond.bits c.refine_by.new.bits c.cells-cells.result c.loop-cond-test.true refl c.loop-cond.invariant c.cells-cells.ensures c.refine_by.ensures.long c.refine_by.ensures.places
