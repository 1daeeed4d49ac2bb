use Rattle.std.proofs.Common.{◌+◌, ◌∙◌, ap, sym, arith, is_some, None, Some, true, false}
use Rattle.sw_rows.specs.Texts.{AreTexts}
use Rattle.sw_rows.proofs.Schemas.TextLaws.{code_within}
use Rattle.sw_rows.proofs.Schemas.TextLemmas.{text_code, text_known_among}
use Rattle.sw_rows.proofs.schema.texts.Texts.code_by_hash.Goals as goal

pub returns-in_err-place-clause-value : goal.returns-in_err-place-clause-value
returns-in_err-place-clause-value c = c.from_residual.ensures ∙ text_code c.args.text.now c.self.inside.texts.keys c.args.self.now None c.self.view_is c.in_err-place.ensures.index

pub returns-in_err-place-clause-found : goal.returns-in_err-place-clause-found
returns-in_err-place-clause-found c = ap is_some c.from_residual.ensures ∙ text_known_among c.args.text.now c.self.inside.texts.keys c.args.self.now false c.self.view_is c.in_err-place.ensures.found

pub returns-clause-value : goal.returns-clause-value
returns-clause-value c = text_code c.args.text.now c.self.inside.texts.keys c.args.self.now (Some c.in_ok-place.place) c.self.view_is c.in_ok-place.ensures.index

pub returns-clause-found : goal.returns-clause-found
returns-clause-found c = text_known_among c.args.text.now c.self.inside.texts.keys c.args.self.now true c.self.view_is c.in_ok-place.ensures.found

pub returns-clause-few : goal.returns-clause-few
returns-clause-few c =
    let within = code_within c.args.self.now (c.in_ok-place.place + 1) c.args.text.now (sym (text_code c.args.text.now c.self.inside.texts.keys c.args.self.now (Some c.in_ok-place.place) c.self.view_is c.in_ok-place.ensures.index)) in
    let sound : AreTexts c.args.self.now = rw c.self.view_is at c.self.invariant.0 in
    let few = sound.few in
    let code = within.1 in
    omega arith
