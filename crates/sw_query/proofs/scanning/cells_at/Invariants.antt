use Rattle.std.proofs.Common.{◌≡◌, get_or, map, take}
use Rattle.sw_query.specs.Scan.{cell_of}
use Rattle.sw_table.specs.declared.row.Row.{Row}
use Rattle.sw_query.proofs.scanning.cells_at.Given as goal

abbrev pub invariant-loop-name : goal.invariant-loop-name
invariant-loop-name g l = (d : Row) → l.cells ≡ map (λ a. cell_of a (get_or (g.P.Places.rows l.rows) l.place d)) (take l.name-index l.names)
