use Rattle.std.proofs.Common.{◌∙◌, ◌<◌, ap, sym, [], length, arith}
use Rattle.std.proofs.lemmas.Grind.{common_steps}
use Rattle.sw_table.specs.declared.row.Row.{Row}
use Rattle.sw_query.specs.Scan.{column, least}
use Rattle.sw_query.proofs.ScanLemmas.{found-no, found-none, least-yes}
use Rattle.sw_query.proofs.scanning.min.Goals as goal
use Rattle.sw_query.proofs.scanning.min.Goals.{then-takes+in-Some, then-takes+in-None, else-takes}

pub loop-place-init : goal.loop-place-init
loop-place-init g c =
    let fs = g.P.Places.flags c.args.rows.now in let xs = g.P.Places.rows c.args.rows.now in
    sym (ap (λ v. least (column c.args.attr v)) (found-none c.args.sieve.now fs xs))

pub loop-place-preserved : goal.loop-place-preserved
loop-place-preserved g c =
    let none : Row = record { key = 0; cells = [] } in
    let cs = c.args.sieve.now in let fs = g.P.Places.flags c.args.rows.now in let xs = g.P.Places.rows c.args.rows.now in let i = c.loop-place.place in
    let lt : i < length xs = omega (arith, c.loop-place-test.true, c.places-place-end.ensures) in
    let so_far = c.loop-place.invariant in
    let a = c.args.attr in
    elim c.if-takes.branch [
      | then-takes+in-Some w ↦
          let step = least-yes cs fs xs i none lt (sym (c.takes.ensures none) ∙ w.if-takes.true) a c.loop-place.found w.cell-here.result (w.cell-here.ensures none) so_far in
          grind (arith, common_steps, step)
      | then-takes+in-None w ↦
          let step = least-yes cs fs xs i none lt (sym (c.takes.ensures none) ∙ w.if-takes.true) a c.loop-place.found w.cell-here.result (w.cell-here.ensures none) so_far in
          grind (arith, common_steps, step)
      | else-takes w ↦ w.found-is ∙ so_far ∙ sym (ap (λ v. least (column a v)) (found-no cs fs xs i none lt (sym (c.takes.ensures none) ∙ w.if-takes.false)))
    ]
