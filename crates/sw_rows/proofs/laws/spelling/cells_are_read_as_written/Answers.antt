use Rattle.std.proofs.Common.{◌∙◌, sym}
use Rattle.std.proofs.lemmas.Option.{same_Some}
use Rattle.sw_rows.proofs.Tables.CellSpelling.{cell_read_back, cell_spelled}
use Rattle.sw_rows.proofs.laws.spelling.cells_are_read_as_written.Goals as goal

pub returns-clause-found : goal.returns-clause-found
returns-clause-found c = cell_spelled

pub returns-clause-only : goal.returns-clause-only
returns-clause-only c = cell_read_back

pub returns-clause-one : goal.returns-clause-one
returns-clause-one c = λ k text y z v w. same_Some y z (sym (cell_read_back k text y v) ∙ cell_read_back k text z w)
