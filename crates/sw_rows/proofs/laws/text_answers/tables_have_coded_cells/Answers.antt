use Rattle.sw_rows.proofs.Scans.TextRowLaws.{table_coded}
use Rattle.sw_rows.proofs.laws.text_answers.tables_have_coded_cells.Goals as goal

pub returns : goal.returns
returns c = table_coded
