use Rattle.std.proofs.Common.{◌≡◌, ◌∙◌, ◌+◌, drop, length, slice_index_or, refl, ap, arith}
use Rattle.sw_arrays.specs.Columns.{knowing}
use Rattle.sw_arrays.proofs.Knows.{text_goes}
use Rattle.sw_arrays.proofs.table.know.Goals as goal

pub loop-place-preserved : goal.loop-place-preserved
loop-place-preserved c =
    let bytes = c.args.texts.now in
    let ends = c.args.ends.now in
    let place = c.loop-place.place in
    let field = length c.args.schema.now + 1 + place in
    let end = slice_index_or ends place 0 in
    let whole = knowing (length c.args.schema.now + 1) bytes 0 ends c.args.schema.now in
    let on : length c.args.schema.now + 1 + (place + 1) ≡ field + 1 = omega arith in
    let step = text_goes field c.loop-place.start place end 0 bytes ends c.in-Some.text.now c.loop-place.schema c.in-Ok.field-0 whole c.loop-place-test.true refl c.in-Some.ensures.value c.in-Ok.ensures.code c.loop-place.invariant in
    ap (λ n. knowing n bytes end (drop (place + 1) ends) c.add_text.new.self) on ∙ (ap (knowing (field + 1) bytes end (drop (place + 1) ends)) c.in-Ok.ensures.added ∙ step)
