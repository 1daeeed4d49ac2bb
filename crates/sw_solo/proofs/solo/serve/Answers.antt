use Rattle.std.proofs.Common.{◌<◌, ◌^◌, ◌∙◌, List, ap, sym, subst, arith, All, drop}
use Rattle.sw_table.specs.declared.row.Row.{Row}
use Rattle.sw_set.specs.Shelf.{Rises, key_of}
use Rattle.sw_spine.specs.Books.{updates}
use Rattle.sw_solo.specs.Seats.{received_or, with_received}
use Rattle.sw_solo.proofs.Follows.{cuts_rise, keys_fit, numbered_rise}
use Rattle.sw_solo.proofs.Served.{may_serve}
use Rattle.sw_solo.proofs.solo.serve.Goals as goal

pub make-requires-clause-rising : goal.make-requires-clause-rising
make-requires-clause-rising g c κs within = cuts_rise c.args.cuts.now c.requires.cuts.rise

pub make-requires-clause-keys : goal.make-requires-clause-keys
make-requires-clause-keys g c κs within =
    let sound = c.entries-entries.ensures.sound in
    let few = sound.few in
    let most = sound.most in
    subst (λ (rs : List Row). All (λ (r : Row). r.key < 2 ^ 63) rs) (sym c.opening_rows.ensures) (keys_fit c.args.spine.now.rows sound.numbered (omega (arith, few, most)))

pub make-requires-clause-rise : goal.make-requires-clause-rise
make-requires-clause-rise g c κs within =
    subst (λ (rs : List Row). Rises key_of rs) (sym c.opening_rows.ensures) (numbered_rise 1 c.args.spine.now.rows c.entries-entries.ensures.sound.numbered)

pub receive-requires-clause-may : goal.receive-requires-clause-may
receive-requires-clause-may g c κs within =
    let s = c.args.seat.now in
    let made = c.in_ok-hand_over.ensures.same ∙ (c.in_ok-make.ensures.made ∙ ap (λ (rs : List Row). with_received (received_or rs s) s) c.opening_rows.ensures) in
    may_serve c.args.spine.now s c.hand_over.new.self c.updates_from-late.result.now c.entries-entries.ensures.sound c.requires.seated made (c.updates_from-late.ensures ∙ ap (λ n. drop n (updates c.args.spine.now)) c.taken.ensures)
