use Rattle.std.proofs.Common.{length, map}
use Rattle.sw_lang.specs.PrintedCalls.{more_names, name_at}
use Rattle.sw_lang.proofs.Progress.{Progress}
use Rattle.sw_lang.proofs.printing.calls.write_more_names.Given as goal

abbrev pub invariant-loop-attr : goal.invariant-loop-attr
invariant-loop-attr g l =
    let s = g.W.Sink in
    Progress (s.taken l.fn.out) (s.taken l.out) (s.failed l.fn.out) (s.failed l.out) (more_names (map (name_at l.schema) l.fn.attrs)) (more_names (map (name_at l.schema) l.attrs))

abbrev pub decreases-loop-attr : goal.decreases-loop-attr
decreases-loop-attr g l = length l.attrs
