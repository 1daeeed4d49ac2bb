use Rattle.sw_lang.proofs.Printed.Calls.{bounds_split}
use Rattle.sw_lang.proofs.Progress.{both, stops}
use Rattle.sw_lang.proofs.printing.calls.write_bounds.Goals as goal

pub returns-in_err-write_lower : goal.returns-in_err-write_lower
returns-in_err-write_lower g c = rw (bounds_split c.args.schema.now c.args.started c.args.cond.now) (stops _ _ c.from_residual.result c.from_residual.ensures.1 c.in_err-write_lower.ensures)

pub returns : goal.returns
returns g c = rw (bounds_split c.args.schema.now c.args.started c.args.cond.now, ← c.continues.ensures) (both _ _ c.write_upper.result c.in_ok-write_lower.ensures c.write_upper.ensures)
