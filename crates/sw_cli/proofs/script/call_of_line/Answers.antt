use Rattle.sw_cli.proofs.Calls.{other_line, text_line}
use Rattle.sw_cli.proofs.Starts.{learned_below, result_tells}
use Rattle.sw_cli.proofs.script.call_of_line.Goals as goal

pub returns-in-Ok-clause-answers : goal.returns-in-Ok-clause-answers
returns-in-Ok-clause-answers c =
    rw (text_line c.args.schema.now c.args.number c.args.line.now c.if-line-gt-MOST_LINE.false c.in-Ok.ensures.cases.1) (rw c.in-Ok.ensures.cases.0 at c.parse_line.ensures.reading)

pub returns-in-Ok-clause-below : goal.returns-in-Ok-clause-below
returns-in-Ok-clause-below c = learned_below c.args.schema.now c.parse_line.new.schema c.args.line.now c.parse_line.result (rw c.in-Ok.ensures.cases.0 at c.parse_line.ensures.learned) c.parse_line.ensures.fits

pub returns-in-Ok-clause-why : goal.returns-in-Ok-clause-why
returns-in-Ok-clause-why c = result_tells c.args.number c.parse_line.result _ c.parse_line.ensures.reading

pub returns-in-Err-clause-answers : goal.returns-in-Err-clause-answers
returns-in-Err-clause-answers c = other_line c.args.schema.now c.args.number c.args.line.now c.if-line-gt-MOST_LINE.false c.in-Err.ensures.cases.0
