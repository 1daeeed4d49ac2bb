use Rattle.sw_lang.proofs.Progress.{both, stops}
use Rattle.sw_lang.proofs.printing.rows.write_some_cells.Goals as goal

pub returns-in_err-write_cell : goal.returns-in_err-write_cell
returns-in_err-write_cell g c = rw c.in-Some.ensures.cases.0 (rw (← c.values_or_int.ensures.domain) (stops _ _ c.from_residual.result c.from_residual.ensures.1 c.in_err-write_cell.ensures))

pub returns : goal.returns
returns g c = rw c.in-Some.ensures.cases.0 (rw (← c.values_or_int.ensures.domain) (both _ _ c.write_more_cells.result c.in_ok-write_cell.ensures c.write_more_cells.ensures))
