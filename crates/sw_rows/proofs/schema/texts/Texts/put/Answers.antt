use Rattle.std.proofs.Common.{◌≡◌, ◌∙◌, ◌+◌, ◌∷◌, [], ap, sym, refl, true, map, string_bytes, Ok}
use Rattle.std.proofs.lemmas.Bool.{and_from}
use Rattle.sw_rows.specs.Recent.{AreTrueOf}
use Rattle.sw_rows.specs.Texts.{AreTexts, is_text, texts_of, with_text}
use Rattle.sw_rows.proofs.Schemas.TextLaws.{given_at, recent_kept}
use Rattle.sw_rows.proofs.Schemas.TextLemmas.{text_index, text_put, texts_sound}
use Rattle.sw_rows.proofs.schema.texts.Texts.put.Goals.{in-Ok-insert_full, in-Err}
use Rattle.sw_rows.proofs.schema.texts.Texts.put.Goals as goal

pub invariant_of-self : goal.invariant_of-self
invariant_of-self c =
    let texts = c.args.self.now in
    let text = c.args.text.now in
    let recent = c.self.inside.recent in
    let sound : AreTexts texts = rw c.self.view_is at c.self.invariant.0 in
    let was : AreTrueOf texts recent = rw c.self.view_is at c.self.invariant.1 in
    elim c.match-insert_full.branch [
      | in-Ok-insert_full w ↦
          let more : texts_of c.insert_full.new.self ≡ with_text texts text = ap (map string_bytes) w.in-Ok-insert_full.ensures.keys ∙ text_put text c.self.inside.texts.keys texts c.in-Ok.owned c.self.view_is c.in-Ok.ensures.ok c.requires.few in
          rw more (texts_sound texts (text ∷ []) sound (and_from (is_text text) true c.requires.text refl), recent_kept texts (text ∷ []) recent was)
      | in-Err w ↦ rw (ap (map string_bytes) w.in-Err.ensures.err ∙ c.self.view_is) (sound, was)
    ]

pub returns-clause-code : goal.returns-clause-code
returns-clause-code c =
    let texts = c.args.self.now in
    let text = c.args.text.now in
    let index = text_index text c.self.inside.texts.keys texts c.in-Ok.owned c.self.view_is c.in-Ok.ensures.ok in
    elim c.match-insert_full.branch [
      | in-Ok-insert_full w ↦ rw w.result-is (given_at texts text c.requires.few ∙ ap (λ n. Ok (n + 1)) (sym (w.in-Ok-insert_full.ensures.index ∙ index)))
      | in-Err w ↦ rw w.result-is tt
    ]

pub returns-clause-added : goal.returns-clause-added
returns-clause-added c =
    elim c.match-insert_full.branch [
      | in-Ok-insert_full w ↦ rw w.result-is (ap (map string_bytes) w.in-Ok-insert_full.ensures.keys ∙ text_put c.args.text.now c.self.inside.texts.keys c.args.self.now c.in-Ok.owned c.self.view_is c.in-Ok.ensures.ok c.requires.few)
      | in-Err w ↦ rw w.result-is tt
    ]
