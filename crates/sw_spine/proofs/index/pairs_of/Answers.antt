use Rattle.std.proofs.Common.{◌≡◌, ◌∙◌, ◌+◌, ◌<◌, ◌++◌, ◌∷◌, [], ap, sym, ℤ, pos, get_or, length, take, FitsSigned, w64, arith, rules}
use Rattle.std.proofs.lemmas.Int.{to_z-of_z}
use Rattle.std.proofs.lemmas.List.{get_or-map, length-map, length-take-le, take_all, take_more}
use Rattle.sw_table.specs.declared.row.Row.{Row}
use Rattle.sw_query.specs.Scan.{cell_of, column}
use Rattle.sw_spine.specs.Indexes.{placed}
use Rattle.sw_spine.proofs.IndexLemmas.{placed-push}
use Rattle.sw_spine.proofs.index.pairs_of.Goals as goal

pub loop-place-preserved : goal.loop-place-preserved
loop-place-preserved c =
    let rows = c.args.rows.now.items in let attr = c.args.attr in let i = c.loop-place.place in
    let d : Row = record { key = 0; cells = [] } in
    let lt : i < length rows = omega (arith, c.loop-place-test.true, c.len-place-end.ensures.many) in
    let few : i < length (column attr rows) = omega (arith, lt, length-map rows (cell_of attr)) in
    let z = c.cell.result in
    let here : get_or (column attr rows) i (pos 0) ≡ z = get_or-map (cell_of attr) rows i d (pos 0) lt ∙ sym (c.cell.ensures d) in
    let at : 0 + length (take i (column attr rows)) ≡ i = omega (arith, length-take-le i (column attr rows) (omega (arith, few))) in
    let fits : FitsSigned w64 z = search rules in
    c.in_ok-push.ensures.items
    ∙ ap (λ (y : ℤ). c.loop-place.pairs.items ++ (y, i) ∷ []) (to_z-of_z w64 z fits)
    ∙ ap (λ l. l ++ (z, i) ∷ []) c.loop-place.invariant
    ∙ sym (ap (placed 0) (take_more (column attr rows) i (pos 0) few ∙ ap (λ y. take i (column attr rows) ++ y ∷ []) here) ∙ placed-push 0 (take i (column attr rows)) z ∙ ap (λ k. placed 0 (take i (column attr rows)) ++ (z, k) ∷ []) at)

pub returns : goal.returns
returns c =
    let rows = c.args.rows.now.items in let attr = c.args.attr in let i = c.loop-place.place in
    c.loop-place.invariant ∙ ap (placed 0) (take_all i (column attr rows) (omega (arith, c.loop-place-test.false, c.len-place-end.ensures.many, length-map rows (cell_of attr))))
