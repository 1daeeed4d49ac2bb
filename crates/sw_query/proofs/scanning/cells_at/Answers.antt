use Rattle.std.proofs.Common.{◌∙◌, ◌++◌, ◌∷◌, ◌<◌, ◌≤◌, [], ap, sym, ℤ, List, get_or, length, map, take, rules, w64}
use Rattle.std.proofs.lemmas.Int.{to_z-of_z}
use Rattle.std.proofs.lemmas.List.{map_push, take_all, take_more}
use Rattle.sw_query.specs.Scan.{cell_of}
use Rattle.sw_query.proofs.scanning.cells_at.Goals as goal

pub loop-name-preserved : goal.loop-name-preserved
loop-name-preserved g c =
    let names = c.args.names.now in let i = c.loop-name.name-index in let xs = g.P.Places.rows c.args.rows.now in let p = c.args.place in
    let lt : i < length names = search rules in
    λ d.
    c.in_ok-push.ensures.ok
    ∙ ap (λ (z : ℤ). c.loop-name.cells ++ z ∷ []) (to_z-of_z w64 c.cell.result (search rules))
    ∙ ap (λ (v : List ℤ). v ++ c.cell.result ∷ []) (c.loop-name.invariant d)
    ∙ ap (λ (z : ℤ). map (λ a. cell_of a (get_or xs p d)) (take i names) ++ z ∷ []) (c.cell.ensures d)
    ∙ sym (ap (map (λ a. cell_of a (get_or xs p d))) (take_more names i 0 lt) ∙ map_push (λ a. cell_of a (get_or xs p d)) (take i names) (get_or names i 0))

pub returns : goal.returns
returns g c =
    let names = c.args.names.now in let i = c.loop-name.name-index in let xs = g.P.Places.rows c.args.rows.now in
    let le : length names ≤ i = search rules in
    λ d. c.loop-name.invariant d ∙ ap (map (λ a. cell_of a (get_or xs c.args.place d))) (take_all i names le)
