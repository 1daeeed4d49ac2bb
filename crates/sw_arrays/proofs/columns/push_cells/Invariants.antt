use Rattle.std.proofs.Common.{◌≡◌, ◌+◌, ◌++◌, take, vec_capacity, vec_len}
use Rattle.sw_arrays.specs.Columns.{row_cells}
use Rattle.sw_arrays.proofs.columns.push_cells.Given as goal

abbrev pub invariant-loop-attr : goal.invariant-loop-attr
invariant-loop-attr l = record {
  items : l.out.items ≡ l.initial.out.items ++ row_cells (take l.attr l.columns) l.row;
  len : vec_len l.out ≡ vec_len l.initial.out + l.attr;
  room : vec_capacity l.out ≡ vec_capacity l.initial.out;
}
