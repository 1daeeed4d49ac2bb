use Rattle.sideways_c.proofs.Texts.{other_cuts, text_cuts}
use Rattle.sideways_c.proofs.opening.cuts_of.Goals as goal

pub returns-in-Ok-clause-answers : goal.returns-in-Ok-clause-answers
returns-in-Ok-clause-answers c = rw (text_cuts c.args.schema.now c.args.text.now c.in-Ok.ensures.cases.1) (rw c.in-Ok.ensures.cases.0 at c.parse_cuts.ensures.reading)

pub returns-in-Err-clause-answers : goal.returns-in-Err-clause-answers
returns-in-Err-clause-answers c = other_cuts c.args.schema.now c.args.text.now c.in-Err.ensures.cases.0
