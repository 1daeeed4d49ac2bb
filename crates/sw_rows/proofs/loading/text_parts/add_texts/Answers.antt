use Rattle.std.proofs.Common.{◌≡◌, ◌∙◌, ap, sym, ◌+◌, ◌++◌, ◌∷◌, [], ℤ, pos, List, length, length-append, rules, w64, to_z, of_z}
use Rattle.std.proofs.lemmas.Int.{to_z-of_z}
use Rattle.sw_rows.proofs.Loads.TextPartLaws.{code_pushed, codes_are, pushed, text_added, text_there}
use Rattle.sw_rows.proofs.loading.text_parts.add_texts.Goals as goal

pub loop-place-preserved : goal.loop-place-preserved
loop-place-preserved c =
    let i = c.loop-place.place in
    let t = c.in-Some.text.now in
    let at = text_there c.args.more.now i t c.in-Some.ensures.value in
    let cell : to_z w64 (of_z w64 c.cell_of.result) ≡ pos c.in-Ok.code = to_z-of_z w64 c.cell_of.result (search rules) ∙ c.cell_of.ensures in
    let items = pushed {X = List ℤ} c.push.result _ _ _ (sym c.is_err.ensures.value ∙ c.if-is_err.false) c.push.ensures.items ∙ ap (λ (z : ℤ). c.loop-place.codes.items ++ z ∷ []) cell in
    record {
      texts = c.in-Ok.ensures.added ∙ text_added c.args.texts.now c.args.more.now c.loop-place.texts i t at c.loop-place.invariant.texts;
      codes = codes_are _ _ _ _ _ c.in-Ok.ensures.added items (code_pushed c.args.more.now c.loop-place.texts c.loop-place.codes.items i t c.in-Ok.code at c.loop-place.invariant.codes c.loop-place.invariant.count c.in-Ok.ensures.code);
      count = ap length items ∙ length-append c.loop-place.codes.items _ ∙ ap (λ m. m + 1) c.loop-place.invariant.count;
    }
