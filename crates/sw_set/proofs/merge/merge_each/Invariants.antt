use Rattle.std.proofs.Common.{◌-◌, length}
use Rattle.sw_set.specs.Aligned.{IsStalled}
use Rattle.sw_set.specs.Merging.{IsMergedUpTo}
use Rattle.sw_set.proofs.merge.merge_each.Given as goal

abbrev pub invariant-loop-many : goal.invariant-loop-many
invariant-loop-many g l = IsMergedUpTo (IsStalled g.M.CrackerMap.stalls) l.updates l.many l.initial.area l.area

abbrev pub decreases-loop-many : goal.decreases-loop-many
decreases-loop-many g l = length l.updates - l.many
