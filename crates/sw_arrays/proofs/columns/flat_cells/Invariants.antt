use Rattle.std.proofs.Common.{◌≡◌, ◌≤◌, ◌*◌, length, vec_capacity, vec_len}
use Rattle.sw_arrays.specs.Columns.{flat_cells}
use Rattle.sw_arrays.proofs.columns.flat_cells.Given as goal

abbrev pub invariant-loop-row : goal.invariant-loop-row
invariant-loop-row l = record {
  items : l.cells.items ≡ flat_cells l.columns l.row;
  len : vec_len l.cells ≡ l.row * length l.columns;
  room : l.many * length l.columns ≤ vec_capacity l.cells;
}
