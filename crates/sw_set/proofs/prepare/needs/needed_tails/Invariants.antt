use Rattle.std.proofs.Common.{◌≡◌, ◌∷◌, map, filter, take}
use Rattle.sw_map.specs.declared.tail.Tail.TheVariants.{Key, Cell}
use Rattle.sw_set.specs.Needs.{attributes, needs_cell}
use Rattle.sw_set.proofs.prepare.needs.needed_tails.Given as goal

abbrev pub invariant-loop-attribute : goal.invariant-loop-attribute
invariant-loop-attribute l = l.tails.items ≡ Key ∷ map Cell (filter (needs_cell l.head l.query) (take l.attribute attributes))
