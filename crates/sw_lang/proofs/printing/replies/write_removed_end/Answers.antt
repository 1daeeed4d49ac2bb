use Rattle.std.proofs.Common.{append_assoc}
use Rattle.sw_lang.proofs.Progress.{both, stops}
use Rattle.sw_lang.proofs.printing.replies.write_removed_end.Goals as goal

pub returns-in_err-write_number : goal.returns-in_err-write_number
returns-in_err-write_number g c = rw append_assoc (stops _ _ c.from_residual.result c.from_residual.ensures.1 c.in_err-write_number.ensures)

pub returns : goal.returns
returns g c = rw append_assoc (both _ _ c.write_all.result c.in_ok-write_number.ensures c.write_all.ensures)
