use Rattle.std.proofs.Common.{◌≡◌, Some, arith}
use Rattle.sw_rows.specs.Texts.{AreTexts, code_of}
use Rattle.sw_rows.proofs.Schemas.TextLaws.{code_only, code_within, text_sound}
use Rattle.sw_rows.proofs.schema.texts.Texts.seen.Goals as goal

-- the code is that of the text
coded : (c : goal.In_ok-code) → code_of c.args.self.now c.args.bytes.now ≡ Some c.in_ok-code.code
coded c = c.in_ok-code.ensures c.args.self.now (rw c.self.view_is at c.self.invariant.1)

pub returns-clause-code : goal.returns-clause-code
returns-clause-code c = coded c

pub returns-clause-few : goal.returns-clause-few
returns-clause-few c =
    let within = (code_within c.args.self.now c.in_ok-code.code c.args.bytes.now (coded c)).1 in
    let sound : AreTexts c.args.self.now = rw c.self.view_is at c.self.invariant.0 in
    let few = sound.few in
    omega arith

pub returns-clause-text : goal.returns-clause-text
returns-clause-text c =
    let sound : AreTexts c.args.self.now = rw c.self.view_is at c.self.invariant.0 in
    text_sound c.args.self.now c.in_ok-code.code c.args.bytes.now sound (code_only c.args.self.now c.in_ok-code.code c.args.bytes.now (coded c))
