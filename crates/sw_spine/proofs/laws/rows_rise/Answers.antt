use Rattle.sw_spine.proofs.Rising.{rows_rise}
use Rattle.sw_spine.proofs.laws.rows_rise.Goals as goal

pub returns : goal.returns
returns c = rows_rise
