use Rattle.std.proofs.Common.{◌≡◌, ◌+◌}
use Rattle.sw_chunks.specs.Shelved.{boxes_in}
use Rattle.sw_chunks.proofs.waiting.Waiting.hand_all.Given as goal

abbrev pub invariant-loop : goal.invariant-loop
invariant-loop g l = record {
  updates : l.head.updates ≡ l.fn.head.updates;
  attribute : l.head.attribute ≡ l.fn.head.attribute;
  left : l.self + l.counter ≡ l.fn.self;
  boxes : l.self + boxes_in l.head.areas ≡ l.fn.self + boxes_in l.fn.head.areas;
}
