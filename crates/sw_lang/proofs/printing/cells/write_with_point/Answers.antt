use Rattle.sw_lang.proofs.Progress.{both, stops}
use Rattle.sw_lang.proofs.printing.cells.write_with_point.Goals as goal

pub returns-in_err-write_number : goal.returns-in_err-write_number
returns-in_err-write_number g c = rw (← c.power_of_ten-one.ensures.value) (stops _ _ c.from_residual.result c.from_residual.ensures.1 c.in_err-write_number.ensures)

pub returns : goal.returns
returns g c = rw (← c.power_of_ten-one.ensures.value) (both _ _ c.write_fraction.result c.in_ok-write_number.ensures c.write_fraction.ensures)
