use Rattle.std.proofs.Common.{◌≡◌, ◌+◌, ◌++◌, take, vec_capacity, vec_len}
use Rattle.sw_load.proofs.appending.append.Given as goal

abbrev pub invariant-loop-cell : goal.invariant-loop-cell
invariant-loop-cell l = record {
  items : l.list.items ≡ l.initial.list.items ++ take l.cell-index l.cells;
  len : vec_len l.list ≡ vec_len l.initial.list + l.cell-index;
  room : vec_capacity l.list ≡ vec_capacity l.initial.list;
}
