use Rattle.sw_lang.proofs.Progress.{both, stops}
use Rattle.sw_cli.proofs.stats.write_after_maps.Goals as goal

pub returns-in_err-write_pair : goal.returns-in_err-write_pair
returns-in_err-write_pair g c = stops _ _ c.from_residual.result c.from_residual.ensures.1 c.in_err-write_pair.ensures

pub returns : goal.returns
returns g c = both _ _ c.write_after_scans.result c.in_ok-write_pair.ensures c.write_after_scans.ensures
