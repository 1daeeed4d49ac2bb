use Rattle.std.proofs.Common.{◌∙◌, ◌<◌, ap, sym, [], length, arith}
use Rattle.sw_table.specs.declared.row.Row.{Row}
use Rattle.sw_query.proofs.ScanLemmas.{count-yes, found-no, found-none}
use Rattle.sw_query.proofs.scanning.count.Goals as goal
use Rattle.sw_query.proofs.scanning.count.Goals.{then-takes, else-takes}

pub loop-place-init : goal.loop-place-init
loop-place-init g c =
    let fs = g.P.Places.flags c.args.rows.now in let xs = g.P.Places.rows c.args.rows.now in
    (sym (ap length (found-none c.args.sieve.now fs xs)), omega arith)

pub loop-place-preserved : goal.loop-place-preserved
loop-place-preserved g c =
    let none : Row = record { key = 0; cells = [] } in
    let cs = c.args.sieve.now in let fs = g.P.Places.flags c.args.rows.now in let xs = g.P.Places.rows c.args.rows.now in let i = c.loop-place.place in
    let lt : i < length xs = omega (arith, c.loop-place-test.true, c.places-place-end.ensures) in
    let so_far = c.loop-place.invariant in
    elim c.if-takes.branch [
      | then-takes w ↦ (w.found-is ∙ count-yes cs fs xs i none lt (sym (c.takes.ensures none) ∙ w.if-takes.true) c.loop-place.found so_far.0, omega (arith, w.found-is, so_far.1))
      | else-takes w ↦ (w.found-is ∙ so_far.0 ∙ sym (ap length (found-no cs fs xs i none lt (sym (c.takes.ensures none) ∙ w.if-takes.false))), omega (arith, w.found-is, so_far.1))
    ]
