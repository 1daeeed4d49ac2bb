use Rattle.std.proofs.Common.{◌≡◌, ◌<◌, ◌+◌, ◌∙◌, ◌++◌, ◌∷◌, [], ap, sym, List, length, take, arith}
use Rattle.std.proofs.lemmas.List.{take_more}
use Rattle.sw_table.specs.declared.row.Row.{Row}
use Rattle.sw_table.proofs.packed.PackedRows.to_rows.Goals as goal

pub loop-place-preserved : goal.loop-place-preserved
loop-place-preserved c =
    let none : Row = record { key = 0; cells = [] } in
    let xs = c.args.self.now.items in let i = c.loop-place.place in
    let lt : i < length xs = omega (arith, c.loop-place-test.true, c.len-place-end.ensures.many) in
    let more : take i xs ++ c.get.result ∷ [] ≡ take (i + 1) xs = ap (λ (r : Row). take i xs ++ r ∷ []) (c.get.ensures none) ∙ sym (take_more xs i none lt) in
    c.in_ok-push.ensures.items ∙ ap (λ (v : List Row). v ++ c.get.result ∷ []) c.loop-place.invariant ∙ more
