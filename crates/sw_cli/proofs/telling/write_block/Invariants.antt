use Rattle.std.proofs.Common.{drop}
use Rattle.sw_lang.proofs.Progress.{Progress}
use Rattle.sw_cli.specs.Outcomes.{block_bytes, outcomes_of}
use Rattle.sw_cli.proofs.telling.write_block.Given as goal

abbrev pub invariant-loop-place : goal.invariant-loop-place
invariant-loop-place g l =
    let s = g.W.Sink in
    Progress (s.taken l.fn.out) (s.taken l.out) (s.failed l.fn.out) (s.failed l.out) (block_bytes l.schema (outcomes_of l.calls l.told)) (block_bytes l.schema (outcomes_of (drop l.place l.calls) (drop l.place l.told)))
