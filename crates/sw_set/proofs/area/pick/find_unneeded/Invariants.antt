use Rattle.std.proofs.Common.{Contains, MatchOption}
use Rattle.sw_set.specs.Sought.{IsAt}
use Rattle.sw_set.proofs.Areas.Picks.{Before}
use Rattle.sw_set.proofs.area.pick.find_unneeded.Given as goal

abbrev pub invariant-loop-at : goal.invariant-loop-at
invariant-loop-at g l = MatchOption l.best (Before (λ (m : g.row.M.Denot). Contains l.tails (g.M.CrackerMap.held m).tail) l.boxes l.at) (λ p. IsAt (λ (m : g.row.M.Denot). ¬ Contains l.tails (g.M.CrackerMap.held m).tail) l.boxes p.0)
