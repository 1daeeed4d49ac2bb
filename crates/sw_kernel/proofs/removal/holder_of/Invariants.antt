use Rattle.std.proofs.Common.{◌≡◌, ◌+◌, drop}
use Rattle.sw_kernel.specs.Ripple.{holder_of}
use Rattle.sw_kernel.proofs.removal.holder_of.Given as goal

abbrev pub invariant-loop-k : goal.invariant-loop-k
invariant-loop-k l = l.k + holder_of (drop l.k l.marks) l.place ≡ holder_of l.marks l.place
