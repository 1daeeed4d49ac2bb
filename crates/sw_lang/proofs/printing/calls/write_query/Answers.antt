use Rattle.sw_lang.proofs.Progress.{both, stops}
use Rattle.sw_lang.proofs.printing.calls.write_query.Goals as goal

pub returns-in_err-write_want : goal.returns-in_err-write_want
returns-in_err-write_want g c = stops _ _ c.from_residual.result c.from_residual.ensures.1 c.in_err-write_want.ensures

pub returns : goal.returns
returns g c = rw (← c.as_slice.ensures) (both _ _ c.write_where.result c.in_ok-write_want.ensures c.write_where.ensures)
