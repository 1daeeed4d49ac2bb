use Rattle.std.proofs.Common.{rules, ◌≡◌, ◌<◌, ◌++◌, ◌∷◌, ℕ, [], length, get_or, ap, ap₂, ◌∙◌, arith, w64}
use Rattle.std.proofs.lemmas.Int.{to_z-of_z}
use Rattle.sw_table.specs.declared.row.Row.{Row}
use Rattle.sw_query.specs.Scan.{cell_of}
use Rattle.sw_chunks.specs.Cuts.{place_in}
use Rattle.sw_chunks.proofs.Dealt.{owners-next}
use Rattle.sw_chunks.proofs.dealing.owners_of.Goals as goal

pub loop-at-preserved : goal.loop-at-preserved
loop-at-preserved c =
    let z : Row = record { key = 0; cells = [] } in
    let xs = c.args.rows.now.items in let n = c.loop-at.at in
    let lt : n < length xs = omega (arith, c.loop-at-test.true, c.len-at-end.ensures.many) in
    let cell : c.cell.result ≡ cell_of c.args.by.now.attribute (get_or xs n z) = c.cell.ensures z ∙ ap (λ a. cell_of a (get_or xs n z)) c.from.ensures in
    let place : c.place_in-place.result ≡ place_in c.args.by.now.cuts.now (cell_of c.args.by.now.attribute (get_or xs n z)) = c.place_in-place.ensures ∙ ap (place_in c.args.by.now.cuts.now) (to_z-of_z w64 c.cell.result (search rules) ∙ cell) in
    let pushed : c.push.new.self.items ≡ c.loop-at.owners.items ++ (c.key.result, c.place_in-place.result) ∷ [] = search rules in
    pushed ∙ owners-next c.args.by.now.attribute c.args.by.now.cuts.now xs n z c.loop-at.owners.items (c.key.result, c.place_in-place.result) lt c.loop-at.invariant (ap₂ (λ (k p : ℕ). let o : ℕ × ℕ = (k, p) in o) (c.key.ensures z) place)
