use Rattle.sw_set.proofs.Areas.Swaps.{none-lack}
use Rattle.sw_set.proofs.prepare.lacking.all_came.Goals as goal

pub returns-in-None : goal.returns-in-None
returns-in-None g c = none-lack g.M.CrackerMap.held _ _ _ _ c.len.ensures.count c.in-None.ensures
