use Rattle.std.proofs.Common.{◌∙◌, ap, sym}
use Rattle.sw_rows.specs.Texts.{code_of}
use Rattle.sw_rows.proofs.Schemas.TextLaws.{known}
use Rattle.sw_rows.proofs.schema.texts.Texts.code.Goals as goal

pub returns-in-Some-clause-found : goal.returns-in-Some-clause-found
returns-in-Some-clause-found c = sym (known c.args.self.now c.in-Some.code c.args.text.now (ap (code_of c.args.self.now) (sym c.as_bytes.ensures.value) ∙ c.in-Some.ensures.code))
