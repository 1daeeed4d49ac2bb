use Rattle.std.proofs.Common.{sym}
use Rattle.sw_lang.proofs.Cutting.Steps.{parts_none, parts_some}
use Rattle.sw_lang.proofs.reading.cuts.first_part.Goals as goal

pub returns-in_default-clause-parts : goal.returns-in_default-clause-parts
returns-in_default-clause-parts c = parts_none c.args.text.now (sym c.in_default.ensures.value)

pub returns-clause-parts : goal.returns-clause-parts
returns-clause-parts c = rw c.split_at.ensures.back (parts_some c.args.text.now c.in-Some.end (sym c.in-Some.ensures.value))
