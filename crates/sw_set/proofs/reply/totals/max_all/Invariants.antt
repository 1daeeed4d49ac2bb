use Rattle.std.proofs.Common.{◌≡◌, ◌≤◌, ◌-◌, length, take}
use Rattle.sw_query.specs.Scan.{greatest}
use Rattle.sw_set.proofs.reply.totals.max_all.Given as goal

-- the greatest so far is found
abbrev pub invariant-loop-place : goal.invariant-loop-place
invariant-loop-place g l = (l.place ≤ length l.window) × (l.found ≡ greatest (take l.place l.window))

abbrev pub decreases-loop-place : goal.decreases-loop-place
decreases-loop-place g l = length l.window - l.place
