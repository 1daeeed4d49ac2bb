use Rattle.std.proofs.Common.{◌≡◌, ◌≤◌, ◌+◌, ◌-◌, ◌++◌, length, take, vec_capacity, vec_len}
use Rattle.sw_rows.proofs.table.numbered.push_cells.Given as goal

abbrev pub invariant-loop-cell : goal.invariant-loop-cell
invariant-loop-cell l = record {
  items : l.list.items ≡ l.initial.list.items ++ take l.cell-index l.cells;
  room : vec_len l.list + (length l.cells - l.cell-index) ≤ vec_capacity l.list;
}
