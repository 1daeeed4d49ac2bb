use Rattle.std.proofs.Common.{◌∙◌, ap}
use Rattle.serde_json.specs.Written.{has_float}
use Rattle.sw_histories.proofs.Back.RecordTextLemmas.{attributes_have_none}
use Rattle.sw_histories.proofs.writing.put_attributes.Goals as goal

pub put_value-requires : goal.put_value-requires
put_value-requires c = ap has_float c.in_ok-value.ensures ∙ attributes_have_none c.args.schema.now
