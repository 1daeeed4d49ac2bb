use Rattle.sw_lang.proofs.Progress.{both, stops}
use Rattle.sw_histories.proofs.checking.explaining.write_explained.Goals as goal

pub returns-in_err-write_illegal : goal.returns-in_err-write_illegal
returns-in_err-write_illegal g c = stops _ _ c.from_residual.result c.from_residual.ensures.1 c.in_err-write_illegal.ensures

pub returns : goal.returns
returns g c = both _ _ c.write_all.result c.in_ok-write_illegal.ensures c.write_all.ensures
