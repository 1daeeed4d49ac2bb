use Rattle.std.proofs.Common.{◌∙◌, ap, sym}
use Rattle.sw_rows.specs.Texts.{code_of}
use Rattle.sw_rows.proofs.Schemas.TextLaws.{adds_known}
use Rattle.sw_rows.proofs.schema.texts.Texts.add.Goals as goal

pub returns-in-Some : goal.returns-in-Some
returns-in-Some c =
    let coded = ap (code_of c.args.self.now) (sym c.as_bytes.ensures.value) ∙ c.in-Some.ensures.code in
    adds_known c.args.self.now c.in-Some.code c.args.text.now coded c.in-Some.ensures.few
