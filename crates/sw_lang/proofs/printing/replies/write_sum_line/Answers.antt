use Rattle.std.proofs.lemmas.Int.{to_z-of_z}
use Rattle.sw_lang.proofs.Progress.{both, stops}
use Rattle.sw_lang.proofs.printing.replies.write_sum_line.Goals as goal

pub returns-in_err-write_sum : goal.returns-in_err-write_sum
returns-in_err-write_sum g c = stops _ _ c.from_residual.result c.from_residual.ensures.1 (simp (to_z-of_z, c.ranges.sum) at c.in_err-write_sum.ensures)

pub returns : goal.returns
returns g c = both _ _ c.write_all.result (simp (to_z-of_z, c.ranges.sum) at c.in_ok-write_sum.ensures) c.write_all.ensures
