use Rattle.sw_set.proofs.Areas.After.{receivable-take}
use Rattle.sw_set.proofs.merge.restart_from.Goals as goal

pub restart_after-requires-clause-receivable : goal.restart_after-requires-clause-receivable
restart_after-requires-clause-receivable g c κs within = receivable-take _ _ _ _ _ _ _ c.requires.receivable
