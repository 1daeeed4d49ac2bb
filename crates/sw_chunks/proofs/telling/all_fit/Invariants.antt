use Rattle.std.proofs.Common.{take, All}
use Rattle.sw_chunks.specs.Heads.{IsCell}
use Rattle.sw_chunks.proofs.telling.all_fit.Given as goal

abbrev pub invariant-loop-cell : goal.invariant-loop-cell
invariant-loop-cell l = All IsCell (take l.cell-index l.cells)
