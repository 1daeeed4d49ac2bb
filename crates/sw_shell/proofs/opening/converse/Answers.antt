use Rattle.sw_cli.specs.Sides.{source_seen}
use Rattle.sw_shell.proofs.Shelling.{shelled_by}
use Rattle.sw_shell.proofs.opening.converse.Goals as goal

pub returns-in-Ok-clause-shelled : goal.returns-in-Ok-clause-shelled
returns-in-Ok-clause-shelled g c =
    shelled_by c.args.options.now _ _ (source_seen (g.T.Source.left c.args.table.now) _ _) c.in-Ok.opened c.talk_on.result
    c.in-Ok.ensures.spelled c.talk_on.ensures.left c.talk_on.ensures.refused

pub returns-in-Err-clause-shelled : goal.returns-in-Err-clause-shelled
returns-in-Err-clause-shelled g c = c.in-Err.ensures.spelled
