use Rattle.sw_lang.proofs.Progress.{both, stops}
use Rattle.sw_lang.proofs.printing.calls.write_comparison.Goals as goal

pub returns-in_err-write_name : goal.returns-in_err-write_name
returns-in_err-write_name g c = stops _ _ c.from_residual.result c.from_residual.ensures.1 c.in_err-write_name.ensures

pub returns : goal.returns
returns g c = rw (← c.values_or_int.ensures.domain) (both _ _ c.write_compared.result c.in_ok-write_name.ensures c.write_compared.ensures)
