use Rattle.sw_lang.proofs.Progress.{both, stops}
use Rattle.sw_lang.proofs.printing.texts.write_quoted.Goals as goal

pub returns-in_err-write_all : goal.returns-in_err-write_all
returns-in_err-write_all g c = stops _ _ c.from_residual.result c.from_residual.ensures.1 c.in_err-write_all.ensures

pub returns : goal.returns
returns g c = both _ _ c.write_closed.result c.in_ok-write_all.ensures c.write_closed.ensures
