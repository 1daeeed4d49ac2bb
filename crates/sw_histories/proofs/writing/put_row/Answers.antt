use Rattle.std.proofs.Common.{◌∙◌, ap}
use Rattle.serde_json.specs.Written.{has_float}
use Rattle.sw_rows.specs.Header.{kinds_of}
use Rattle.sw_histories.proofs.Back.RecordTextLemmas.{row_has_none}
use Rattle.sw_histories.proofs.writing.put_row.Goals as goal

pub put_value-requires : goal.put_value-requires
put_value-requires c = ap has_float c.in_ok-value.ensures ∙ row_has_none (kinds_of c.args.schema.now) c.args.row.now
