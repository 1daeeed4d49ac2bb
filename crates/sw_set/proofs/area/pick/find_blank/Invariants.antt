use Rattle.std.proofs.Common.{◌≡◌, ◌<◌, ℕ, length, false, get_or}
use Rattle.sw_set.proofs.area.pick.find_blank.Given as goal

abbrev pub invariant-loop-i : goal.invariant-loop-i
invariant-loop-i g l = (k : ℕ) (d : g.row.M.Denot) → k < l.i → k < length l.boxes → (g.M.CrackerMap.held (get_or l.boxes k d)).is_blank ≡ false
