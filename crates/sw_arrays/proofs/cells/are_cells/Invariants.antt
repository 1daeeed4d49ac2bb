use Rattle.std.proofs.Common.{◌≡◌, drop}
use Rattle.sw_arrays.specs.Asked.{are_cells}
use Rattle.sw_arrays.proofs.cells.are_cells.Given as goal

abbrev pub invariant-loop-attr : goal.invariant-loop-attr
invariant-loop-attr l = are_cells l.schema l.attr (drop l.attr l.cells) ≡ are_cells l.schema 0 l.cells
