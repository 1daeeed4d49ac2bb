use Rattle.std.proofs.Common.{◌≡◌, drop, fold}
use Rattle.sw_describe.specs.Columns.{each_once, with_cell}
use Rattle.sw_describe.proofs.column.distinct_of.Given as goal

abbrev pub invariant-loop-cell : goal.invariant-loop-cell
invariant-loop-cell l = fold with_cell l.seen.keys (drop l.cell-index l.cells) ≡ each_once l.cells
