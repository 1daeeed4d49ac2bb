use Rattle.std.proofs.Common.{◌≡◌, ◌+◌, drop}
use Rattle.sw_kernel.specs.Ripple.{piece_of}
use Rattle.sw_kernel.proofs.insertion.piece_of.Given as goal

abbrev pub invariant-loop-k : goal.invariant-loop-k
invariant-loop-k l = l.k + piece_of (drop l.k l.marks) l.value ≡ piece_of l.marks l.value
