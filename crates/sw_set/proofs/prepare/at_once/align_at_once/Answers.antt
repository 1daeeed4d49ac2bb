use Rattle.sw_map.specs.Lawful.{IsLawful}
use Rattle.sw_set.proofs.Areas.Boxes.{held-all}
use Rattle.sw_set.proofs.Areas.Swaps.{same-boxes}
use Rattle.sw_set.proofs.prepare.at_once.align_at_once.Goals as goal

pub returns-clause-lawful : goal.returns-clause-lawful
returns-clause-lawful g c = held-all g.M.CrackerMap.held (IsLawful c.args.attribute c.args.tape.now) _ c.step_lacking.ensures.lawful

pub returns-clause-same : goal.returns-clause-same
returns-clause-same g c = same-boxes g.M.CrackerMap.held _ _ c.step_lacking.ensures.many c.step_lacking.ensures.same
