use Rattle.std.proofs.Common.{◌∙◌, ◌∷◌, [], ◌++◌, subst}
use Rattle.sw_outputs.specs.Records.{IsMade}
use Rattle.sw_outputs.proofs.records.Records.add_number.Goals as goal

pub returns : goal.returns
returns g c = λ bytes fields m. subst (λ t. IsMade c.add.new.self bytes (fields ++ t ∷ [])) (c.as_bytes.ensures.value ∙ c.format-text.ensures.text) (c.in_ok-add.ensures bytes fields m)
