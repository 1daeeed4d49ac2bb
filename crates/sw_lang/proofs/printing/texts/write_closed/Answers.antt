use Rattle.sw_lang.proofs.Progress.{both, stops}
use Rattle.sw_lang.proofs.printing.texts.write_closed.Goals as goal

pub returns-in_err-write_doubled : goal.returns-in_err-write_doubled
returns-in_err-write_doubled g c = stops _ _ c.from_residual.result c.from_residual.ensures.1 c.in_err-write_doubled.ensures

pub returns : goal.returns
returns g c = both _ _ c.write_all.result c.in_ok-write_doubled.ensures c.write_all.ensures
