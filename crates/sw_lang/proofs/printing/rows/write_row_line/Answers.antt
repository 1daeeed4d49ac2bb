use Rattle.sw_lang.proofs.Progress.{both, stops}
use Rattle.sw_lang.proofs.printing.rows.write_row_line.Goals as goal

pub returns-in_err-write_row : goal.returns-in_err-write_row
returns-in_err-write_row g c = stops _ _ c.from_residual.result c.from_residual.ensures.1 c.in_err-write_row.ensures

pub returns : goal.returns
returns g c = both _ _ c.write_all.result c.in_ok-write_row.ensures c.write_all.ensures
