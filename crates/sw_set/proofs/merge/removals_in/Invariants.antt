use Rattle.std.proofs.Common.{◌≡◌, ◌≤◌, ◌+◌, drop}
use Rattle.sw_set.specs.Merged.{removals_in}
use Rattle.sw_set.proofs.merge.removals_in.Given as goal

abbrev pub invariant-loop-update : goal.invariant-loop-update
invariant-loop-update l = (l.many + removals_in (drop l.update-index l.updates) ≡ removals_in l.updates) × (l.many ≤ l.update-index)
