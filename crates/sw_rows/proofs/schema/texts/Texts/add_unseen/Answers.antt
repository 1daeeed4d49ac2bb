use Rattle.std.proofs.Common.{◌∙◌, ap}
use Rattle.sw_rows.specs.Texts.{code_of}
use Rattle.sw_rows.proofs.Schemas.TextLaws.{given_kept}
use Rattle.sw_rows.proofs.schema.texts.Texts.add_unseen.Goals as goal

pub invariant_of-self : goal.invariant_of-self
invariant_of-self c =
    let texts = c.args.self.now in
    let text = c.args.text.now in
    let coded = ap (code_of _) c.as_bytes.ensures.value ∙ ap (λ us. code_of us text) (c.self.view_is ∙ c.in-Ok.ensures.added) ∙ given_kept texts text c.in-Ok.code c.in-Ok.ensures.code in
    (c.self.invariant.0, c.note.ensures _ coded c.self.invariant.1)
