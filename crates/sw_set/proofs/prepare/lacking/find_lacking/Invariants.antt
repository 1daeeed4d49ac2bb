use Rattle.std.proofs.Common.{◌≡◌, ◌<◌, ◌≤◌, ℕ, length, false, Contains, get_or}
use Rattle.sw_set.proofs.prepare.lacking.find_lacking.Given as goal

abbrev pub invariant-loop-at : goal.invariant-loop-at
invariant-loop-at g l = (k : ℕ) (d : g.row.M.Denot) → l.from ≤ k → k < l.at → k < length l.boxes → (g.M.CrackerMap.held (get_or l.boxes k d)).is_blank ≡ false → Contains l.tails (g.M.CrackerMap.held (get_or l.boxes k d)).tail → (g.M.CrackerMap.held (get_or l.boxes k d)).cursor ≡ l.end
