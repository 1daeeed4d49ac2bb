use Rattle.std.proofs.Common.{◌-◌, length}
use Rattle.sw_load.proofs.Without.{IsPartGone}
use Rattle.sw_load.proofs.gone.gone_after.Given as goal

abbrev pub invariant-loop-place : goal.invariant-loop-place
invariant-loop-place l = IsPartGone l.live l.old l.from l.done l.gone.items

abbrev pub decreases-loop-place : goal.decreases-loop-place
decreases-loop-place l = length l.live - l.from
