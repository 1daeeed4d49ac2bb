use Rattle.sw_lang.proofs.Progress.{both, stops}
use Rattle.sw_lang.proofs.printing.calls.write_term.Goals as goal

pub returns-in_err-write_joiner : goal.returns-in_err-write_joiner
returns-in_err-write_joiner g c = stops _ _ c.from_residual.result c.from_residual.ensures.1 c.in_err-write_joiner.ensures

pub returns : goal.returns
returns g c = both _ _ c.write_comparison.result c.in_ok-write_joiner.ensures c.write_comparison.ensures
