use Rattle.std.proofs.Common.{◌≡◌, ℕ, ◌<◌, get_or, length, map}
use Rattle.sw_query.specs.Scan.{column}
use Rattle.sw_set.specs.Choice.{IsColumn, column_at, shown_rows}
use Rattle.sw_set.proofs.reply.finding.columns_of.Given as goal

-- the columns of the names so far
abbrev pub invariant-loop-name : goal.invariant-loop-name
invariant-loop-name g l =
    (length l.columns ≡ 8) ×
    ((k d : ℕ) → k < l.name-index → IsColumn (map g.M.CrackerMap.held l.boxes) (column_at l.columns (get_or l.names k d)) (column (get_or l.names k d) (shown_rows l.head l.tape)))
