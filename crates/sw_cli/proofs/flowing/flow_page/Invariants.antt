use Rattle.std.proofs.Common.{length}
use Rattle.sw_cli.specs.Outcomes.{line_before}
use Rattle.sw_cli.proofs.Pages.{Underway}
use Rattle.sw_cli.proofs.flowing.flow_page.Given as goal

abbrev pub invariant-loop-call : goal.invariant-loop-call
invariant-loop-call g l =
    let s = g.W.Sink in
    Underway l.schema l.fn.page.calls l.calls l.fn.session.0 l.session (line_before l.place) (s.taken l.fn.out) (s.taken l.out) (s.failed l.fn.out) (s.failed l.out)

abbrev pub decreases-loop-call : goal.decreases-loop-call
decreases-loop-call g l = length l.calls
