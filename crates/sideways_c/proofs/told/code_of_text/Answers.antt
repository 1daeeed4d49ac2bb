use Rattle.std.proofs.Common.{rules, ◌≡◌, ◌∙◌, sym}
use mir.Syntax.{w64}
use mir.Val.{of_z, to_z}
use Rattle.sw_rows.specs.Header.{texts_of}
use Rattle.sw_rows.specs.Texts.{code_of}
use Rattle.sideways_c.specs.Looks.{or_zero}
use Rattle.sideways_c.proofs.Texts.{other_code, text_code}
use Rattle.sideways_c.proofs.told.code_of_text.Goals as goal

pub returns-in-Ok : goal.returns-in-Ok
returns-in-Ok c =
    let value : to_z w64 (of_z w64 c.code_or_zero.result) ≡ c.code_or_zero.result = search rules in
    let found : c.code_or_zero.result ≡ or_zero (code_of (texts_of c.args.schema.now) c.args.text.now) = rw c.in-Ok.ensures.cases.0 at c.code_or_zero.ensures in
    value ∙ (found ∙ sym (text_code c.args.schema.now c.args.text.now c.in-Ok.ensures.cases.1))

pub returns-in-Err : goal.returns-in-Err
returns-in-Err c = sym (other_code c.args.schema.now c.args.text.now c.in-Err.ensures.cases.0)
