use Rattle.std.proofs.Common.{drop}
use Rattle.sw_lang.proofs.Progress.{Progress}
use Rattle.sw_cli.specs.Outcomes.{blocks_told, text_of}
use Rattle.sw_cli.proofs.Outcomes.{text_from}
use Rattle.sw_cli.proofs.telling.write_blocks.Given as goal

abbrev pub invariant-loop-place : goal.invariant-loop-place
invariant-loop-place g l =
    let s = g.W.Sink in
    Progress (s.taken l.fn.out) (s.taken l.out) (s.failed l.fn.out) (s.failed l.out) (text_of l.schema (blocks_told l.blocks l.told)) (text_from l.schema l.place (blocks_told (drop l.place l.blocks) (drop l.place l.told)))
