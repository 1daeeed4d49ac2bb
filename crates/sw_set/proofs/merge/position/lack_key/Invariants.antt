use Rattle.std.proofs.Common.{◌≡◌, false}
use Rattle.sw_set.specs.Position.{LacksKey}
use Rattle.sw_set.proofs.merge.position.lack_key.Given as goal

abbrev pub invariant-loop-cell : goal.invariant-loop-cell
invariant-loop-cell l = l.found ≡ false → LacksKey l.key l.cells 0 l.cell-index
