use Rattle.std.proofs.Common.{◌≡◌, ◌+◌, filter, length, take}
use Rattle.sw_set.specs.Needs.{attributes, needs_cell}
use Rattle.sw_set.proofs.prepare.needs.needed_maps.Given as goal

abbrev pub invariant-loop-attribute : goal.invariant-loop-attribute
invariant-loop-attribute l = l.many ≡ 1 + length (filter (needs_cell l.head l.query) (take l.attribute attributes))
