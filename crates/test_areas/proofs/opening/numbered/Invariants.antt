use Rattle.std.proofs.Common.{◌≡◌, take}
use Rattle.test_areas.specs.Opening.{numbered}
use Rattle.test_areas.proofs.opening.numbered.Given as goal

abbrev pub invariant-loop-i : goal.invariant-loop-i
invariant-loop-i l = l.rows.items ≡ numbered (take l.i l.cells)
