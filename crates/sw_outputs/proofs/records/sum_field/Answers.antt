use Rattle.std.proofs.Common.{◌≡◌, ◌∷◌, [], ap, rules, FitsSigned, ℤ, of_z, to_z}
use Rattle.std.specs.Int.{w128}
use Rattle.std.proofs.lemmas.Int.{to_z-of_z}
use Rattle.sw_lang.specs.Replies.{sum_text}
use Rattle.sw_outputs.specs.JsonLines.{kind_called}
use Rattle.sw_outputs.proofs.records.sum_field.Goals as goal

pub returns : goal.returns
returns c =
    let k = kind_called c.args.schema.now c.args.call.now in
    let z : ℤ = c.args.sum in
    let fits : FitsSigned w128 z = search rules in
    let kept : to_z w128 (of_z w128 z) ≡ z = to_z-of_z w128 z fits in
    c.in_ok-text.ensures (sum_text k z) (ap (λ (y : ℤ). sum_text k y ∷ []) kept)
