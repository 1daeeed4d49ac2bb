use Rattle.std.proofs.Common.{length}
use Rattle.test_areas.proofs.moves.push_rows.Given as goal

abbrev pub decreases-loop-key : goal.decreases-loop-key
decreases-loop-key l = length l.left
