use Rattle.std.proofs.Common.{length}
use Rattle.sw_lang.specs.Replies.{doubled}
use Rattle.sw_lang.proofs.Progress.{Progress}
use Rattle.sw_lang.proofs.printing.texts.write_doubled.Given as goal

abbrev pub invariant-loop-place : goal.invariant-loop-place
invariant-loop-place g l =
    let s = g.W.Sink in
    Progress (s.taken l.fn.out) (s.taken l.out) (s.failed l.fn.out) (s.failed l.out) (doubled l.text) (doubled l.rest)

abbrev pub decreases-loop-place : goal.decreases-loop-place
decreases-loop-place g l = length l.rest
