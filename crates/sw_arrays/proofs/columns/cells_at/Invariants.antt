use Rattle.std.proofs.Common.{◌≡◌}
use Rattle.sw_table.specs.Packed.{zeros}
use Rattle.sw_arrays.proofs.Blocks.{part_filled}
use Rattle.sw_arrays.specs.Columns.{row_cells}
use Rattle.sw_arrays.proofs.columns.cells_at.Given as goal

abbrev pub invariant-loop-attr : goal.invariant-loop-attr
invariant-loop-attr l = l.cells ≡ part_filled l.attr (row_cells l.columns l.row) zeros
