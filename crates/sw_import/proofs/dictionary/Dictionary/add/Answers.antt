use Rattle.std.proofs.Common.{◌≡◌, ◌∙◌, ap, sym, refl, true, false, map, string_bytes}
use Rattle.sw_rows.specs.Texts.{has_text}
use Rattle.sw_rows.proofs.Schemas.TextLemmas.{text_inserted, text_known_among}
use Rattle.sw_import.proofs.dictionary.Dictionary.add.Goals.{in-Ok, in-Err}
use Rattle.sw_import.proofs.dictionary.Dictionary.add.Goals as goal

pub returns-then-contains-clause-added : goal.returns-then-contains-clause-added
returns-then-contains-clause-added c =
    let known : has_text c.args.self.now c.args.text.now ≡ true = sym (text_known_among c.args.text.now c.self.inside.texts.keys c.args.self.now true c.self.view_is (sym c.if-contains.true ∙ c.contains.ensures)) in
    rw known refl

pub returns-clause-added : goal.returns-clause-added
returns-clause-added c =
    let texts = c.args.self.now in
    let text = c.args.text.now in
    let new : has_text texts text ≡ false = sym (text_known_among text c.self.inside.texts.keys texts false c.self.view_is (sym c.if-contains.false ∙ c.contains.ensures)) in
    elim c.match-insert.branch [
      | in-Ok w ↦ rw (w.result-is, new) (ap (map string_bytes) w.in-Ok.ensures.keys ∙ text_inserted text c.self.inside.texts.keys texts c.in_ok-text.text c.self.view_is c.in_ok-text.ensures.ok new)
      | in-Err w ↦ rw w.result-is tt
    ]
