use Rattle.std.proofs.Common.{◌≡◌, length, map, take, drop}
use Rattle.sw_table.specs.Rows.{cell_of}
use Rattle.sw_load.proofs.appending.read_cells.Given as goal

-- the cells so far are read
abbrev pub invariant-loop-k : goal.invariant-loop-k
invariant-loop-k l = (length l.block ≡ length l.fn.block) × (take l.k l.block ≡ map (cell_of l.attr) (take l.k (drop l.start l.rows.items)))
