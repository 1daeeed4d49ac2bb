use Rattle.std.proofs.Common.{◌≡◌, ◌∙◌, ◌+◌, ◌++◌, ◌∷◌, [], ap, sym, subst, fold, get_or, take, List}
use Rattle.std.proofs.lemmas.List.{take_more}
use Rattle.std.proofs.lemmas.List.Sums.{fold-append}
use Rattle.sw_table.specs.declared.row.Row.{Row}
use Rattle.sw_table.specs.declared.row.Update.{Update}
use Rattle.sw_table.specs.declared.row.Update.TheVariants.{Insert}
use Rattle.sw_set.specs.Live.{IsStandingOf, Standing, live_among}
use Rattle.sw_set.specs.Shelf.{Rises, came_then, key_of}
use Rattle.sw_set.proofs.Areas.LiveStandings.{rises-came, rises-part}
use Rattle.sw_set.proofs.area.live.LiveRows.after.Goals as goal

pub loop-update-init : goal.loop-update-init
loop-update-init c =
    let load = c.args.load.now.items in
    let s = c.args.self.now in
    let standing : IsStandingOf load s = record { many = c.requires.many; rise = rises-came (load ++ s.later) c.args.updates.now c.requires.rise } in (
      subst (IsStandingOf load) (sym c.in_ok-live.ensures) standing,
      ap (λ (v : Standing). load ++ v.later) c.in_ok-live.ensures,
      ap (live_among load) c.in_ok-live.ensures,
    )

pub follow-requires-clause-rise : goal.follow-requires-clause-rise
follow-requires-clause-rise c =
    let load = c.args.load.now.items in
    let s = c.args.self.now in
    let us = c.args.updates.now in
    let i = c.loop-update.update-index in
    let none : Update = Insert (record { key = 0; cells = [] }) in
    let more : take (i + 1) us ≡ take i us ++ get_or us i none ∷ [] = take_more us i none c.loop-update-test.true in
    let came : came_then (load ++ c.loop-update.live.later) (get_or us i none) ≡ fold came_then (load ++ s.later) (take (i + 1) us) =
    ap (λ (v : List Row). came_then v (get_or us i none)) c.loop-update.invariant.1 ∙ sym (ap (fold came_then (load ++ s.later)) more ∙ fold-append came_then (load ++ s.later) (take i us) (get_or us i none ∷ [])) in
    subst (Rises key_of) (sym came) (rises-part (load ++ s.later) us (i + 1) c.requires.rise)
