use Rattle.std.proofs.Common.{◌≡◌, ◌++◌, take, drop, map, length}
use Rattle.sw_kernel.specs.Ripple.{later, later_from}
use Rattle.sw_kernel.proofs.insertion.bump.Given as goal

abbrev pub invariant-loop-k : goal.invariant-loop-k
invariant-loop-k l = record {
  done : take l.k l.marks ++ map later (drop l.k l.fn.marks) ≡ later_from l.from l.fn.marks;
  left : drop l.k l.marks ≡ drop l.k l.fn.marks;
  long : length l.marks ≡ length l.fn.marks;
}
