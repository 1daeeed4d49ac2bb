use Rattle.sw_lang.proofs.Progress.{both, stops}
use Rattle.sw_cli.proofs.fault.write_text_line.Goals as goal

pub returns-in_err-write_text : goal.returns-in_err-write_text
returns-in_err-write_text g c = stops _ _ c.from_residual.result c.from_residual.ensures.1 c.in_err-write_text.ensures

pub returns : goal.returns
returns g c = both _ _ c.write_all.result c.in_ok-write_text.ensures c.write_all.ensures
