use Rattle.std.proofs.Common.{◌≡◌}
use Rattle.sw_histories.specs.Outlines.{after_members}
use Rattle.sw_histories.proofs.reading.outline.pass_all.Given as goal

abbrev pub invariant-loop-left : goal.invariant-loop-left
invariant-loop-left l = after_members l.count l.initial.reader ≡ after_members l.left l.reader

abbrev pub decreases-loop-left : goal.decreases-loop-left
decreases-loop-left l = l.left
