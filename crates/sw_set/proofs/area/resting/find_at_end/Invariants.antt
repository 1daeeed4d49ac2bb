use Rattle.std.proofs.Common.{ℕ, ◌<◌, get_or, length}
use Rattle.sw_set.specs.Prepared.{IsReady}
use Rattle.sw_set.proofs.area.resting.find_at_end.Given as goal

-- none so far is ready
abbrev pub invariant-loop-at : goal.invariant-loop-at
invariant-loop-at g l = (k : ℕ) (d : g.row.M.Denot) → k < l.at → k < length l.boxes → IsReady l.tail l.tape (g.M.CrackerMap.held (get_or l.boxes k d)) → ⊥
