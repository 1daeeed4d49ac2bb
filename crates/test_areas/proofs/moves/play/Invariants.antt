use Rattle.std.proofs.Common.{◌≡◌, []}
use Rattle.test_areas.proofs.moves.play.Given as goal

abbrev pub invariant-loop-place : goal.invariant-loop-place
invariant-loop-place g l = l.area.inbox ≡ []
