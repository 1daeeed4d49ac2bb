use Rattle.std.proofs.Common.{◌≡◌, length}
use Rattle.test_small.proofs.bits.thirds.Given as goal

abbrev pub invariant-loop-i : goal.invariant-loop-i
invariant-loop-i l = length l.bits ≡ 130
