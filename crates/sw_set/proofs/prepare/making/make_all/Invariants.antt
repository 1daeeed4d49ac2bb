use Rattle.std.proofs.Common.{◌<◌, ℕ, length, get_or}
use Rattle.sw_map.specs.declared.tail.Tail.{Tail}
use Rattle.sw_set.specs.Boxed.{IsHeld, IsSameButBoxes}
use Rattle.sw_set.proofs.prepare.making.make_all.Given as goal

abbrev pub invariant-loop-i : goal.invariant-loop-i
invariant-loop-i g l = IsSameButBoxes l.initial.area l.area × ((k : ℕ) (d : Tail) → k < l.i → k < length l.tails → IsHeld (get_or l.tails k d) l.cells l.area.boxes)
