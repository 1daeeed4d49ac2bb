use Rattle.sw_lang.proofs.Progress.{step, stops_within}
use Rattle.sw_lang.proofs.Printed.Calls.{conds_first}
use Rattle.sw_lang.proofs.printing.calls.write_where.Goals as goal

pub returns-in_err-write_cond : goal.returns-in_err-write_cond
returns-in_err-write_cond g c =
    let parted = rw (conds_first c.args.schema.now c.loop-cond.started c.in-Some.cond.now c.in-Some.later.now c.loop-cond.conds.now c.in-Some.ensures.cases.0) at c.loop-cond.invariant in
    stops_within _ _ c.from_residual.result c.from_residual.ensures.1 parted c.in_err-write_cond.ensures

pub loop-cond-preserved : goal.loop-cond-preserved
loop-cond-preserved g c =
    let parted = rw (conds_first c.args.schema.now c.loop-cond.started c.in-Some.cond.now c.in-Some.later.now c.loop-cond.conds.now c.in-Some.ensures.cases.0) at c.loop-cond.invariant in
    rw c.starts-started.ensures (step parted c.in_ok-write_cond.ensures)
