use Rattle.std.proofs.Common.{◌<◌, ◌^◌, All, List, [], get_or, length, arith, subst}
use Rattle.std.proofs.lemmas.List.{take_all}
use Rattle.std.proofs.lemmas.List.Elements.{All-more}
use Rattle.sw_table.specs.declared.row.Row.{Row}
use Rattle.test_maps.proofs.replaying.keys_fit.Goals as goal

pub loop-place-preserved : goal.loop-place-preserved
loop-place-preserved c =
    let none : Row = record { key = 0; cells = [] } in
    let rows = c.args.rows.now.items in let i = c.loop-place.place in
    let lt : i < length rows = omega (arith, c.loop-place-test.true, c.len-place-end.ensures.many) in
    let fits : (get_or rows i none).key < 2 ^ 63 = omega (arith, c.key.ensures none, c.if-key.false) in
    All-more (λ (r : Row). r.key < 2 ^ 63) rows i none lt c.loop-place.invariant fits

pub returns : goal.returns
returns c = λ t. subst (λ (l : List Row). All (λ (r : Row). r.key < 2 ^ 63) l) (take_all c.loop-place.place c.args.rows.now.items (omega (arith, c.len-place-end.ensures.many))) c.loop-place.invariant
