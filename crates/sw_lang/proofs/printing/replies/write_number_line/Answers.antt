use Rattle.sw_lang.proofs.Progress.{both, stops}
use Rattle.sw_lang.proofs.printing.replies.write_number_line.Goals as goal

pub returns-in_err-write_number : goal.returns-in_err-write_number
returns-in_err-write_number g c = stops _ _ c.from_residual.result c.from_residual.ensures.1 c.in_err-write_number.ensures

pub returns : goal.returns
returns g c = both _ _ c.write_all.result c.in_ok-write_number.ensures c.write_all.ensures
