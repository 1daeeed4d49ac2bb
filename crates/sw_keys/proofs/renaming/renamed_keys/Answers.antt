use Rattle.std.proofs.Common.{◌≡◌, ◌∙◌, ◌<◌, ◌≤◌, ◌++◌, ◌∷◌, [], ap, get_or, length, map, refl, subst, arith, rules}
use Rattle.std.specs.Prelude.{string_bytes}
use Rattle.std.proofs.lemmas.List.{length-map, map_push}
use Rattle.std.proofs.lemmas.Option.{slice_get_read}
use Rattle.sw_keys.specs.Renamings.{IsRenamedKey}
use Rattle.sw_keys.proofs.RenamingLemmas.{at_map, zip_all, zip_step}
use Rattle.sw_keys.proofs.renaming.renamed_keys.Goals as goal

pub loop-place-preserved : goal.loop-place-preserved
loop-place-preserved c =
    let k = c.loop-place.place in
    let lines = c.args.lines.now in
    let line = c.index-lines-place.result in
    let lt : k < length lines = search rules in
    let is : line ≡ get_or lines k line = search rules in
    let there = at_map (λ t. string_bytes t) lines k line (slice_get_read lines (length lines) k line refl lt is) in
    let text : c.as_str.result.now ≡ string_bytes line = search rules in
    let pushed : c.push.new.self.items ≡ c.loop-place.new.items ++ c.in-Some.text ∷ [] = search rules in
    let grown = ap (λ l. map (λ t. string_bytes t) l) pushed ∙ map_push (λ t. string_bytes t) c.loop-place.new.items c.in-Some.text in
    zip_step (IsRenamedKey c.args.names.now.keys.now) (map (λ t. string_bytes t) lines) k (map (λ t. string_bytes t) c.loop-place.new.items) (map (λ t. string_bytes t) c.push.new.self.items) (string_bytes line) (string_bytes c.in-Some.text)
    there grown (subst (λ l. IsRenamedKey c.args.names.now.keys.now l (string_bytes c.in-Some.text)) text (rw c.in-Some.is at c.in_ok-made.ensures)) c.loop-place.invariant

pub returns : goal.returns
returns c =
    let past : length (map (λ t. string_bytes t) c.args.lines.now) ≤ c.loop-place.place = omega (arith, length-map c.args.lines.now (λ t. string_bytes t)) in
    zip_all (IsRenamedKey c.args.names.now.keys.now) (map (λ t. string_bytes t) c.args.lines.now) c.loop-place.place (map (λ t. string_bytes t) c.loop-place.new.items) past c.loop-place.invariant
