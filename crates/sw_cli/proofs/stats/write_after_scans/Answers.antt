use Rattle.sw_lang.proofs.Progress.{both, stops}
use Rattle.sw_cli.proofs.stats.write_after_scans.Goals as goal

pub returns-in_err-write_labelled : goal.returns-in_err-write_labelled
returns-in_err-write_labelled g c = stops _ _ c.from_residual.result c.from_residual.ensures.1 c.in_err-write_labelled.ensures

pub returns : goal.returns
returns g c = both _ _ c.write_all.result c.in_ok-write_labelled.ensures c.write_all.ensures
