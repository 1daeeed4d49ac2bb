use Rattle.std.proofs.Common.{◌∙◌, ◌<◌, ◌++◌, ◌∷◌, ap, sym, refl, [], get_or, length, map, arith, ℕ}
use Rattle.sw_table.specs.declared.row.Row.{Row}
use Rattle.sw_table.specs.Live.{key_of}
use Rattle.sw_query.proofs.ScanLemmas.{found-no, found-none, keys-yes}
use Rattle.sw_query.proofs.scanning.keys.Goals as goal
use Rattle.sw_query.proofs.scanning.keys.Goals.{then-takes+in_ok-push, else-takes}

pub loop-place-init : goal.loop-place-init
loop-place-init g c =
    let fs = g.P.Places.flags c.args.rows.now in let xs = g.P.Places.rows c.args.rows.now in
    c.new-found.ensures.items ∙ sym (ap (map key_of) (found-none c.args.sieve.now fs xs))

pub loop-place-preserved : goal.loop-place-preserved
loop-place-preserved g c =
    let none : Row = record { key = 0; cells = [] } in
    let cs = c.args.sieve.now in let fs = g.P.Places.flags c.args.rows.now in let xs = g.P.Places.rows c.args.rows.now in let i = c.loop-place.place in
    let lt : i < length xs = omega (arith, c.loop-place-test.true, c.places-place-end.ensures) in
    let so_far = c.loop-place.invariant in
    elim c.if-takes.branch [
      | then-takes+in_ok-push w ↦
          ap (λ (v : _). v.items) w.found-is ∙ w.in_ok-push.ensures.items
          ∙ ap (λ (k : ℕ). c.loop-place.found.items ++ k ∷ []) (w.key.ensures none)
          ∙ keys-yes cs fs xs i none lt (sym (c.takes.ensures none) ∙ w.if-takes.true) c.loop-place.found.items (get_or xs i none) refl so_far
      | else-takes w ↦ ap (λ (v : _). v.items) w.found-is ∙ so_far ∙ sym (ap (map key_of) (found-no cs fs xs i none lt (sym (c.takes.ensures none) ∙ w.if-takes.false)))
    ]
