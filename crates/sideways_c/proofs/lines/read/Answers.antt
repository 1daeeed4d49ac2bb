use Rattle.sideways_c.proofs.Texts.{other_call, text_call}
use Rattle.sideways_c.proofs.lines.read.Goals as goal

pub returns-in-Ok-clause-spelled : goal.returns-in-Ok-clause-spelled
returns-in-Ok-clause-spelled c = rw (text_call c.args.solo.now.history.columns c.args.line.now c.in-Ok.ensures.cases.1) (rw c.in-Ok.ensures.cases.0 at c.read_line.ensures.read)

pub returns-in-Err-clause-spelled : goal.returns-in-Err-clause-spelled
returns-in-Err-clause-spelled c = other_call c.args.solo.now.history.columns c.args.line.now c.in-Err.ensures.cases.0
