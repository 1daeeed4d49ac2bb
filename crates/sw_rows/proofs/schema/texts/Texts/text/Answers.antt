use Rattle.std.proofs.Common.{◌∙◌, ap, sym, Some, map, string_bytes, option_map}
use Rattle.std.proofs.lemmas.Option.{slice_get-map}
use Rattle.sw_rows.proofs.Schemas.TextLemmas.{text_at}
use Rattle.sw_rows.proofs.schema.texts.Texts.text.Goals as goal

pub returns-clause-text : goal.returns-clause-text
returns-clause-text c = text_at (map string_bytes c.self.inside.texts.keys) c.in_ok-place.place c.as_str.result.now c.self.invariant.0.sound (slice_get-map string_bytes c.self.inside.texts.keys c.in_ok-place.place ∙ ap (option_map string_bytes) (sym c.in_ok-text.ensures.key) ∙ ap Some (sym c.as_str.ensures.value))
