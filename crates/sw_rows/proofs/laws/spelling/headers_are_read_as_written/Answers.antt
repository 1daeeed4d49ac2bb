use Rattle.std.proofs.Common.{◌∙◌, sym}
use Rattle.sw_rows.proofs.Schemas.HeaderSpelling.{header_read_back, header_spelled}
use Rattle.sw_rows.proofs.Options.{same_Ok}
use Rattle.sw_rows.proofs.laws.spelling.headers_are_read_as_written.Goals as goal

pub returns-clause-found : goal.returns-clause-found
returns-clause-found c = header_spelled

pub returns-clause-only : goal.returns-clause-only
returns-clause-only c = header_read_back

pub returns-clause-one : goal.returns-clause-one
returns-clause-one c = λ fields before after v w. same_Ok before after (sym (header_read_back fields before v) ∙ header_read_back fields after w)
