use Rattle.sw_histories.proofs.Back.TableCells.{table_cells}
use Rattle.sw_histories.proofs.law.tables_have_cells.Goals as goal

pub returns : goal.returns
returns c = table_cells
