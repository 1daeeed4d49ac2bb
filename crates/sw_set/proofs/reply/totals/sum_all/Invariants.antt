use Rattle.std.proofs.Common.{◌≡◌, ◌≤◌, ◌-◌, length, take}
use Rattle.sw_query.specs.Scan.{total}
use Rattle.sw_set.specs.Choice.{IsSumOf}
use Rattle.sw_set.proofs.reply.totals.sum_all.Given as goal

-- the values so far are summed up
abbrev pub invariant-loop-place : goal.invariant-loop-place
invariant-loop-place g l = (l.place ≤ length l.window) × (l.sum ≡ total (take l.place l.window)) × IsSumOf l.place l.sum

abbrev pub decreases-loop-place : goal.decreases-loop-place
decreases-loop-place g l = length l.window - l.place
