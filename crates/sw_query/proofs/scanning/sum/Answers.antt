use Rattle.std.proofs.Common.{◌∙◌, ◌<◌, ap, sym, [], length, arith}
use Rattle.std.proofs.lemmas.Int.{ints, to_z-of_z}
use Rattle.std.proofs.lemmas.Grind.{common_steps}
use Rattle.sw_table.specs.declared.row.Row.{Row}
use Rattle.sw_query.specs.Scan.{column, total}
use Rattle.sw_query.proofs.ScanLemmas.{found-no, found-none, total-yes}
use Rattle.sw_query.proofs.scanning.sum.Goals as goal
use Rattle.sw_query.proofs.scanning.sum.Goals.{then-takes, else-takes}

pub loop-place-init : goal.loop-place-init
loop-place-init g c =
    let fs = g.P.Places.flags c.args.rows.now in let xs = g.P.Places.rows c.args.rows.now in
    (sym (ap (λ v. total (column c.args.attr v)) (found-none c.args.sieve.now fs xs)), omega (arith, ints), omega (arith, ints))

pub loop-place-preserved : goal.loop-place-preserved
loop-place-preserved g c =
    let none : Row = record { key = 0; cells = [] } in
    let cs = c.args.sieve.now in let fs = g.P.Places.flags c.args.rows.now in let xs = g.P.Places.rows c.args.rows.now in let i = c.loop-place.place in
    let lt : i < length xs = omega (arith, c.loop-place-test.true, c.places-place-end.ensures) in
    let so_far = c.loop-place.invariant in
    let a = c.args.attr in
    elim c.if-takes.branch [
      | then-takes w ↦
          let step = total-yes cs fs xs i none lt (sym (c.takes.ensures none) ∙ w.if-takes.true) a c.loop-place.sum w.cell.result (w.cell.ensures none) (sym c.loop-place.sum-is ∙ so_far.0) in
          (grind (arith, common_steps, to_z-of_z, step), omega (arith, ints), omega (arith, ints))
      | else-takes w ↦
          let step = ap (λ v. total (column a v)) (found-no cs fs xs i none lt (sym (c.takes.ensures none) ∙ w.if-takes.false)) in
          (grind (arith, common_steps, to_z-of_z, step), omega (arith, ints), omega (arith, ints))
    ]
