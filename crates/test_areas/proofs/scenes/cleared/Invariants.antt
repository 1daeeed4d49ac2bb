use Rattle.std.proofs.Common.{◌≡◌, All}
use Rattle.sw_map.specs.Held.{blank}
use Rattle.test_areas.proofs.scenes.cleared.Given as goal

abbrev pub invariant-loop-turn : goal.invariant-loop-turn
invariant-loop-turn g l = All (λ m. g.M.CrackerMap.held m ≡ blank) l.into.items
