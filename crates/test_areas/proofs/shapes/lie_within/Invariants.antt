use Rattle.std.proofs.Common.{◌≡◌, true, take}
use Rattle.std.specs.List.{list_all}
use Rattle.sw_set.specs.Shelf.{lies_within}
use Rattle.test_areas.proofs.shapes.lie_within.Given as goal

abbrev pub invariant-loop-row : goal.invariant-loop-row
invariant-loop-row l = list_all (lies_within l.attribute l.from l.below) (take l.row-index l.rows) ≡ true
