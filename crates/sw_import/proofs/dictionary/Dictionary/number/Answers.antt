use Rattle.std.proofs.Common.{◌∙◌, None, Some}
use Rattle.sw_rows.proofs.Schemas.TextLemmas.{text_code}
use Rattle.sw_import.proofs.dictionary.Dictionary.number.Goals as goal

pub returns-in_err-place : goal.returns-in_err-place
returns-in_err-place c = c.from_residual.ensures ∙ text_code c.args.text.now c.self.inside.texts.keys c.args.self.now None c.self.view_is c.in_err-place.ensures.index

pub returns : goal.returns
returns c = text_code c.args.text.now c.self.inside.texts.keys c.args.self.now (Some c.in_ok-place.place) c.self.view_is c.in_ok-place.ensures.index
