use Rattle.std.proofs.Common.{◌≡◌, take}
use Rattle.std.specs.Prelude.{map}
use Rattle.serde_json.specs.Data.{string}
use Rattle.serde_json.specs.View.{view}
use Rattle.sw_histories.specs.RecordText.{attribute_text}
use Rattle.sw_histories.proofs.writing.attributes_value.Given as goal

abbrev pub invariant-loop-attr : goal.invariant-loop-attr
invariant-loop-attr l = map view l.items.items ≡ map (λ t. string t) (map attribute_text (take l.attr l.schema))
