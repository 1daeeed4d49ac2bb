use Rattle.std.proofs.Common.{◌≤◌, ◌-◌}
use Rattle.sw_set.specs.Choice.{side_in}
use Rattle.sw_set.specs.Position.{LacksKey}
use Rattle.sw_set.specs.declared.reply.window.Side.TheVariants.{Tail}
use Rattle.sw_set.proofs.merge.position.skip_others.Given as goal

abbrev pub invariant-loop-block : goal.invariant-loop-block
invariant-loop-block g l = (l.from ≤ l.place) × LacksKey l.key (side_in Tail (g.M.CrackerMap.held l.it)) l.from l.place

abbrev pub decreases-loop-block : goal.decreases-loop-block
decreases-loop-block g l = l.upto - l.place
