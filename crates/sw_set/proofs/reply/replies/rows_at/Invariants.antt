use Rattle.std.proofs.Common.{◌≡◌, take, map}
use Rattle.sw_set.specs.Choice.{row_in}
use Rattle.sw_set.proofs.reply.replies.rows_at.Given as goal

-- the rows found so far
abbrev pub invariant-loop-key : goal.invariant-loop-key
invariant-loop-key g l = l.rows ≡ map (row_in (map g.M.CrackerMap.held l.boxes) l.columns l.names) (take l.key-index l.found)
