use Rattle.sw_lang.proofs.Progress.{both, stops}
use Rattle.sw_lang.proofs.Printed.Texts.{ends_last}
use Rattle.sw_lang.proofs.printing.rows.write_rows.Goals as goal

pub returns-in_err-write_row_lines : goal.returns-in_err-write_row_lines
returns-in_err-write_row_lines g c = rw ends_last (stops _ _ c.from_residual.result c.from_residual.ensures.1 c.in_err-write_row_lines.ensures)

pub returns : goal.returns
returns g c = rw (← c.len.ensures, ends_last) (both _ _ c.write_rows_line.result c.in_ok-write_row_lines.ensures c.write_rows_line.ensures)
