use Rattle.sw_lang.proofs.Parsing.Lines.{line_found, line_read}
use Rattle.sw_lang.proofs.laws.lines_are_read_as_related.Goals as goal

pub returns-clause-found : goal.returns-clause-found
returns-clause-found c = line_found

pub returns-clause-only : goal.returns-clause-only
returns-clause-only c = line_read
