use Rattle.std.proofs.Common.{◌≡◌, ◌∙◌, ◌<◌, ◌≤◌, ◌++◌, ◌∷◌, [], ap, get_or, length, map, refl, subst, arith, rules}
use Rattle.std.specs.Prelude.{string_bytes}
use Rattle.std.proofs.lemmas.List.{map_push}
use Rattle.std.proofs.lemmas.Option.{slice_get_read, slice_get-get_or}
use Rattle.sw_keys.specs.Renamings.{IsRenamedRow, IsRowAt}
use Rattle.sw_keys.proofs.RenamingLemmas.{at_map, zip_all, zip_step}
use Rattle.sw_keys.proofs.renaming.rows_in.Goals as goal

pub loop-place-preserved : goal.loop-place-preserved
loop-place-preserved c =
    let k = c.loop-place.place-index in
    let order = c.args.order.now in
    let rows = c.args.rows.now in
    let row = c.index-rows-number.result in
    let lt : k < length order = omega (arith, c.loop-place-test.true) in
    let is : row ≡ get_or rows (get_or order k 0) row = search rules in
    let there = at_map (λ t. string_bytes t) rows (get_or order k 0) row (slice_get_read rows (length rows) (get_or order k 0) row refl (c.requires k lt) is) in
    let text : c.as_str.result.now ≡ string_bytes row = search rules in
    let pushed : c.push.new.self.items ≡ c.loop-place.new.items ++ c.in-Some.text ∷ [] = search rules in
    let grown = ap (λ l. map (λ t. string_bytes t) l) pushed ∙ map_push (λ t. string_bytes t) c.loop-place.new.items c.in-Some.text in
    zip_step (IsRowAt c.args.names.now.keys.now (map (λ t. string_bytes t) rows)) order k (map (λ t. string_bytes t) c.loop-place.new.items) (map (λ t. string_bytes t) c.push.new.self.items) (get_or order k 0) (string_bytes c.in-Some.text)
    (slice_get-get_or order k 0 lt) grown (string_bytes row, there, subst (λ l. IsRenamedRow c.args.names.now.keys.now l (string_bytes c.in-Some.text)) text (rw c.in-Some.is at c.in_ok-made.ensures)) c.loop-place.invariant

pub returns : goal.returns
returns c =
    let past : length c.args.order.now ≤ c.loop-place.place-index = omega arith in
    zip_all (IsRowAt c.args.names.now.keys.now (map (λ t. string_bytes t) c.args.rows.now)) c.args.order.now c.loop-place.place-index (map (λ t. string_bytes t) c.loop-place.new.items) past c.loop-place.invariant
