use Rattle.std.proofs.Common.{◌∙◌, sym}
use Rattle.sw_rows.proofs.Tables.TableSpelling.{table_read_back, table_spelled}
use Rattle.sw_rows.proofs.Options.{same_Ok}
use Rattle.sw_rows.proofs.laws.spelling.tables_are_read_as_written.Goals as goal

pub returns-clause-found : goal.returns-clause-found
returns-clause-found c = table_spelled

pub returns-clause-only : goal.returns-clause-only
returns-clause-only c = table_read_back

pub returns-clause-one : goal.returns-clause-one
returns-clause-one c = λ bytes t u v w. same_Ok t u (sym (table_read_back bytes t v) ∙ table_read_back bytes u w)
