use Rattle.std.proofs.Common.{◌<◌, All, take}
use Rattle.sw_query.specs.declared.query.Cond.{Cond}
use Rattle.test_sessions.proofs.below.conds_below.Given as goal

abbrev pub invariant-loop-cond : goal.invariant-loop-cond
invariant-loop-cond l = All (λ (c : Cond). c.attr < l.columns) (take l.cond-index l.conds)
