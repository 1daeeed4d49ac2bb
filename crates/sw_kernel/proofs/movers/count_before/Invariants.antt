use Rattle.std.proofs.Common.{◌≤◌}
use Rattle.sw_kernel.proofs.movers.count_before.Given as goal

abbrev pub invariant-loop-k : goal.invariant-loop-k
invariant-loop-k l = l.n ≤ l.k
