use Rattle.sw_rows.proofs.Scans.RowLaws.{cells-unused, keys-count, rows-few, table-schema}
use Rattle.sw_rows.proofs.laws.spelling.tables_have_numbered_rows.Goals as goal

pub returns-clause-schema : goal.returns-clause-schema
returns-clause-schema c = table-schema

pub returns-clause-few : goal.returns-clause-few
returns-clause-few c = rows-few

pub returns-clause-keys : goal.returns-clause-keys
returns-clause-keys c = λ bytes t read i r. keys-count bytes t i r read

pub returns-clause-unused : goal.returns-clause-unused
returns-clause-unused c = λ bytes t read i r attr. cells-unused bytes t i r attr read
