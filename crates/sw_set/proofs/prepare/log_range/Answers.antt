use Rattle.sw_set.proofs.Preparing.Noting.{same-logged, same-trans}
use Rattle.sw_set.proofs.prepare.log_range.Goals as goal

pub returns-clause-same : goal.returns-clause-same
returns-clause-same g c = same-logged _ _ _ _ _ c.log-2.ensures

pub returns-then-tape_len-eq-MAX_ENTRIES-clause-same : goal.returns-then-tape_len-eq-MAX_ENTRIES-clause-same
returns-then-tape_len-eq-MAX_ENTRIES-clause-same g c = same-trans _ _ _ c.restart.ensures.same (same-logged _ _ _ _ _ c.log.ensures)
