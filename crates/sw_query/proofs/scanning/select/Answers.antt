use Rattle.std.proofs.Common.{◌∙◌, ◌<◌, ◌++◌, ◌∷◌, ap, sym, refl, [], get_or, length, map, arith}
use Rattle.sw_table.specs.declared.row.Row.{Row}
use Rattle.sw_query.specs.declared.reply.ReplyRow.{ReplyRow}
use Rattle.sw_query.specs.Scan.{projected}
use Rattle.sw_query.proofs.ScanLemmas.{found-no, found-none, shown-yes}
use Rattle.sw_query.proofs.scanning.select.Goals as goal
use Rattle.sw_query.proofs.scanning.select.Goals.{then-takes+in_ok-shown_at+in_ok-push_row, else-takes}

pub loop-place-init : goal.loop-place-init
loop-place-init g c =
    let fs = g.P.Places.flags c.args.rows.now in let xs = g.P.Places.rows c.args.rows.now in
    c.new-found.ensures ∙ sym (ap (map (projected c.args.names.now)) (found-none c.args.sieve.now fs xs))

pub loop-place-preserved : goal.loop-place-preserved
loop-place-preserved g c =
    let none : Row = record { key = 0; cells = [] } in
    let cs = c.args.sieve.now in let fs = g.P.Places.flags c.args.rows.now in let xs = g.P.Places.rows c.args.rows.now in let i = c.loop-place.place in
    let lt : i < length xs = omega (arith, c.loop-place-test.true, c.places-place-end.ensures) in
    let so_far = c.loop-place.invariant in
    elim c.if-takes.branch [
      | then-takes+in_ok-shown_at+in_ok-push_row w ↦
          w.found-is ∙ w.in_ok-push_row.ensures.ok
          ∙ ap (λ (r : ReplyRow). c.loop-place.found ++ r ∷ []) (w.in_ok-shown_at.ensures none)
          ∙ shown-yes cs fs xs i none lt (sym (c.takes.ensures none) ∙ w.if-takes.true) c.args.names.now c.loop-place.found (get_or xs i none) refl so_far
      | else-takes w ↦ w.found-is ∙ so_far ∙ sym (ap (map (projected c.args.names.now)) (found-no cs fs xs i none lt (sym (c.takes.ensures none) ∙ w.if-takes.false)))
    ]
