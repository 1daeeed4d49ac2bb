use Rattle.std.proofs.Common.{◌≡◌, []}
use Rattle.test_areas.proofs.moves.ranged.Given as goal

abbrev pub invariant-loop-value : goal.invariant-loop-value
invariant-loop-value g l = l.area.inbox ≡ []
