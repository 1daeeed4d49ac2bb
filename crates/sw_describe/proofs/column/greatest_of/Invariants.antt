use Rattle.std.proofs.Common.{◌≡◌, drop, fold}
use Rattle.sw_describe.specs.Columns.{greatest, greater_with}
use Rattle.sw_describe.proofs.column.greatest_of.Given as goal

abbrev pub invariant-loop-cell : goal.invariant-loop-cell
invariant-loop-cell l = fold greater_with l.found (drop l.cell-index l.cells) ≡ greatest l.cells
