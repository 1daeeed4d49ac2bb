use Rattle.std.proofs.Common.{◌≡◌, ℕ, map, take, All}
use Rattle.sw_table.specs.declared.row.Row.{Row}
use Rattle.sw_table.specs.declared.row.Update.TheVariants.{Insert}
use Rattle.sw_query.specs.Scan.{cell_of}
use Rattle.sw_chunks.specs.Heads.{IsCell, told_in}
use Rattle.sw_chunks.proofs.telling.tell_rows.Given as goal

abbrev pub invariant-loop-at : goal.invariant-loop-at
invariant-loop-at l = (told_in l.told.rows ≡ map Insert (take l.at l.rows.items)) × All (λ (r : Row). (a : ℕ) → IsCell (cell_of a r)) (take l.at l.rows.items)
