use Rattle.std.proofs.Common.{◌≡◌, ◌<◌, length, zip, drop}
use Rattle.sw_kernel.specs.Ripple.{closed_up, origin}
use Rattle.sw_kernel.proofs.removal.close_up.Given as goal

abbrev pub invariant-loop-k : goal.invariant-loop-k
invariant-loop-k l = record {
  within : l.hole < length l.head;
  same : closed_up origin (drop l.k l.marks) (length l.fn.head) l.hole (zip l.head l.tail) ≡ closed_up origin (drop l.fn.from l.marks) (length l.fn.head) l.fn.place (zip l.fn.head l.fn.tail);
}
