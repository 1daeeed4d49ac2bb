use Rattle.std.proofs.Common.{◌≤◌, ◌-◌, length}
use Rattle.sw_load.specs.Flags.{AreLive}
use Rattle.sw_load.proofs.flags.skip_live.Given as goal

abbrev pub invariant-loop-place : goal.invariant-loop-place
invariant-loop-place l = (l.from ≤ l.place) × (l.place ≤ length l.live) × AreLive l.live l.from l.place

abbrev pub decreases-loop-place : goal.decreases-loop-place
decreases-loop-place l = length l.live - l.place
