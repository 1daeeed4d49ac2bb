use Rattle.std.proofs.Common.{◌<◌, All, take}
use Rattle.sw_query.specs.declared.query.Cond.{Cond}
use Rattle.test_areas.proofs.asking.conds_are_small.Given as goal

abbrev pub invariant-loop-cond : goal.invariant-loop-cond
invariant-loop-cond l = All (λ (c : Cond). c.attr < 8) (take l.cond-index l.conds)
