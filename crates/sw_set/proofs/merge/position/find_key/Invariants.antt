use Rattle.sw_set.specs.Choice.{side_in}
use Rattle.sw_set.specs.Position.{LacksKey}
use Rattle.sw_set.specs.declared.reply.window.Side.TheVariants.{Tail}
use Rattle.sw_set.proofs.merge.position.find_key.Given as goal

-- none so far is the key
abbrev pub invariant-loop-place : goal.invariant-loop-place
invariant-loop-place g l = LacksKey l.key (side_in Tail (g.M.CrackerMap.held l.it)) l.from l.place
