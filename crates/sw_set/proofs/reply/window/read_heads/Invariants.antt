use Rattle.std.proofs.Common.{◌≡◌, length, take, drop}
use Rattle.sw_set.specs.Choice.{side_in}
use Rattle.sw_set.specs.declared.reply.window.Side.TheVariants.{Head}
use Rattle.sw_set.proofs.reply.window.read_heads.Given as goal

-- the heads so far are read
abbrev pub invariant-loop-at : goal.invariant-loop-at
invariant-loop-at g l = (length l.part ≡ length l.fn.part) × (take l.at l.part ≡ take l.at (drop l.place (side_in Head (g.M.CrackerMap.held l.map))))
