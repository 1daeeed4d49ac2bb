use Rattle.std.proofs.Common.{◌≡◌, length, zip, drop}
use Rattle.sw_kernel.specs.Ripple.{carried}
use Rattle.sw_kernel.proofs.insertion.carry_on.Given as goal

abbrev pub invariant-loop-k : goal.invariant-loop-k
invariant-loop-k l = carried (drop l.k l.marks) (length l.fn.head) l.hand (zip l.head l.tail) ≡ carried (drop l.fn.from l.marks) (length l.fn.head) l.fn.hand (zip l.fn.head l.fn.tail)
