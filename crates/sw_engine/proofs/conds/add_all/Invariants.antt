use Rattle.std.proofs.Common.{◌≡◌, ◌++◌, take}
use Rattle.sw_engine.proofs.conds.add_all.Given as goal

abbrev pub invariant-loop-cond : goal.invariant-loop-cond
invariant-loop-cond l = l.conds ≡ l.initial.conds ++ take l.cond-index l.more
