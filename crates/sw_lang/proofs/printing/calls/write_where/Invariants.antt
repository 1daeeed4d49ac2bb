use Rattle.std.proofs.Common.{false, length}
use Rattle.sw_lang.specs.PrintedCalls.{where_text}
use Rattle.sw_lang.proofs.Progress.{Progress}
use Rattle.sw_lang.proofs.printing.calls.write_where.Given as goal

abbrev pub invariant-loop-cond : goal.invariant-loop-cond
invariant-loop-cond g l =
    let s = g.W.Sink in
    Progress (s.taken l.fn.out) (s.taken l.out) (s.failed l.fn.out) (s.failed l.out) (where_text l.schema false l.fn.conds) (where_text l.schema l.started l.conds)

abbrev pub decreases-loop-cond : goal.decreases-loop-cond
decreases-loop-cond g l = length l.conds
