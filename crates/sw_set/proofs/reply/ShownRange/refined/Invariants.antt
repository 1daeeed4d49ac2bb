use Rattle.std.proofs.Common.{◌≡◌, map, take}
use Rattle.sw_query.specs.Scan.{meets_all}
use Rattle.sw_set.specs.Choice.{range_rows}
use Rattle.sw_set.proofs.reply.ShownRange.refined.Given as goal

-- the conditions so far
abbrev pub invariant-loop-cond : goal.invariant-loop-cond
invariant-loop-cond g l = l.bits ≡ map (meets_all (take l.cond-index l.conds)) (range_rows l.self)
