use Rattle.std.proofs.Common.{◌≡◌, drop, fold}
use Rattle.sw_describe.specs.Columns.{least, lesser_with}
use Rattle.sw_describe.proofs.column.least_of.Given as goal

abbrev pub invariant-loop-cell : goal.invariant-loop-cell
invariant-loop-cell l = fold lesser_with l.found (drop l.cell-index l.cells) ≡ least l.cells
