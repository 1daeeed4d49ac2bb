use Rattle.std.proofs.Common.{◌≡◌, take, map}
use Rattle.sw_set.specs.Choice.{column_at, value_in}
use Rattle.sw_set.proofs.reply.replies.cells_at.Given as goal

-- the cells of the names so far
abbrev pub invariant-loop-name : goal.invariant-loop-name
invariant-loop-name g l = l.cells ≡ map (λ a. value_in (map g.M.CrackerMap.held l.boxes) (column_at l.columns a) l.place) (take l.name-index l.names)
