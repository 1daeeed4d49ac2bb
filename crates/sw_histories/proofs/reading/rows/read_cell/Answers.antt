use Rattle.std.proofs.Common.{◌∙◌}
use Rattle.serde_json.specs.View.{view}
use Rattle.sw_rows.specs.Header.{texts_of}
use Rattle.sw_histories.proofs.Found.RecordReadingLemmas.{number_cell}
use Rattle.sw_histories.proofs.reading.rows.read_cell.Goals as goal

pub returns-in-Int : goal.returns-in-Int
returns-in-Int c = c.read_number.ensures (texts_of c.args.schema.now) ∙ number_cell (texts_of c.args.schema.now) c.args.kind (view c.args.value.now) c.in-Int.is
