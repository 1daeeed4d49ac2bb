use Rattle.std.proofs.Common.{◌∙◌, ap}
use Rattle.serde_json.specs.Written.{has_float}
use Rattle.sw_histories.proofs.Back.RecordTextLemmas.{entry_has_none}
use Rattle.sw_histories.proofs.writing.put_entry.Goals as goal

pub put_value-requires : goal.put_value-requires
put_value-requires c = ap has_float c.in_ok-value.ensures ∙ entry_has_none c.args.schema.now c.args.entry.now
