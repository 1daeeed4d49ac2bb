use Rattle.sw_lang.specs.PrintedCalls.{name_at}
use Rattle.sw_lang.proofs.Progress.{step, stops_within}
use Rattle.sw_lang.proofs.Printed.Calls.{names_first}
use Rattle.sw_lang.proofs.printing.calls.write_more_names.Goals as goal

pub returns-in_err-write_next_name : goal.returns-in_err-write_next_name
returns-in_err-write_next_name g c =
    let parted = rw (names_first (name_at c.args.schema.now) c.in-Some.attr.now c.in-Some.later.now c.loop-attr.attrs.now c.in-Some.ensures.cases.0) at c.loop-attr.invariant in
    stops_within _ _ c.from_residual.result c.from_residual.ensures.1 parted c.in_err-write_next_name.ensures

pub loop-attr-preserved : goal.loop-attr-preserved
loop-attr-preserved g c =
    let parted = rw (names_first (name_at c.args.schema.now) c.in-Some.attr.now c.in-Some.later.now c.loop-attr.attrs.now c.in-Some.ensures.cases.0) at c.loop-attr.invariant in
    step parted c.in_ok-write_next_name.ensures
