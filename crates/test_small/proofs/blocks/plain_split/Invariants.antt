use Rattle.std.proofs.Common.{◌≡◌, ◌-◌, ◌≤◌, length}
use Rattle.test_small.proofs.blocks.plain_split.Given as goal

abbrev pub invariant-cursors : goal.invariant-cursors
invariant-cursors l = record {
  order : l.i ≤ l.j;
  room : l.j ≤ length l.head;
  same : length l.head ≡ length l.tail;
}

abbrev pub decreases-cursors : goal.decreases-cursors
decreases-cursors l = l.j - l.i
