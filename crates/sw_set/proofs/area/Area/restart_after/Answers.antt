use Rattle.std.proofs.Common.{◌≡◌, ◌<◌, ◌^◌, true, fold, sym, subst, List, All}
use Rattle.sw_table.specs.declared.row.Row.{Row}
use Rattle.sw_kernel.specs.Tapes.{brought}
use Rattle.sw_tape.specs.Restart.{first_rows}
use Rattle.sw_set.specs.Live.{live_among}
use Rattle.sw_set.specs.Shelf.{AreReceivable, AreaState, Rises, came_then, key_of, lies_within, logged_rows}
use Rattle.sw_set.proofs.Areas.After.{after-all, came-rise, rows-rise}
use Rattle.sw_set.proofs.Areas.Longer.{logged-all}
use Rattle.sw_set.proofs.Areas.Ties.{tied-after, tied-came}
use Rattle.sw_set.proofs.area.Area.restart_after.Goals as goal

pub after-requires-clause-rise : goal.after-requires-clause-rise
after-requires-clause-rise g c =
    let s = c.self.inside in
    let us = c.args.updates.now in
    let may : AreReceivable s.attribute s.from s.below (brought s.tape) (logged_rows s.attribute s.tape) us = subst (λ (v : AreaState). AreReceivable v.attribute v.from v.below (brought v.tape) (logged_rows v.attribute v.tape) us) (sym c.self.view_is) c.requires.receivable in
    subst (λ (v : List Row). Rises key_of (fold came_then v us)) (sym (tied-came s.attribute s.tape s.live _ c.load_of.ensures c.self.invariant.1)) (came-rise s.attribute s.from s.below (brought s.tape) (logged_rows s.attribute s.tape) us may c.self.invariant.0.brought_rise)

pub restart_with-requires-clause-keys : goal.restart_with-requires-clause-keys
restart_with-requires-clause-keys g c κs within =
    let s = c.self.inside in
    let us = c.args.updates.now in
    let live = c.in_ok-live.live in
    let may : AreReceivable s.attribute s.from s.below (brought s.tape) (logged_rows s.attribute s.tape) us = subst (λ (v : AreaState). AreReceivable v.attribute v.from v.below (brought v.tape) (logged_rows v.attribute v.tape) us) (sym c.self.view_is) c.requires.receivable in
    let are = tied-after s.attribute s.tape s.live live _ us c.load_of.ensures c.self.invariant.1 c.in_ok-live.ensures.1 in
    subst (λ (v : AreaState). All (λ (r : Row). r.key < 2 ^ 63) (live_among (first_rows v.tape) live)) c.self.view_is
    (subst (All (λ (r : Row). r.key < 2 ^ 63)) (sym are) (after-all (λ (r : Row). r.key < 2 ^ 63) s.attribute s.from s.below (brought s.tape) (logged_rows s.attribute s.tape) us may (λ r fits lies. fits) c.self.invariant.0.rows_fit))

pub restart_with-requires-clause-rise : goal.restart_with-requires-clause-rise
restart_with-requires-clause-rise g c κs within =
    let s = c.self.inside in
    let us = c.args.updates.now in
    let live = c.in_ok-live.live in
    let may : AreReceivable s.attribute s.from s.below (brought s.tape) (logged_rows s.attribute s.tape) us = subst (λ (v : AreaState). AreReceivable v.attribute v.from v.below (brought v.tape) (logged_rows v.attribute v.tape) us) (sym c.self.view_is) c.requires.receivable in
    let are = tied-after s.attribute s.tape s.live live _ us c.load_of.ensures c.self.invariant.1 c.in_ok-live.ensures.1 in
    subst (λ (v : AreaState). Rises key_of (live_among (first_rows v.tape) live)) c.self.view_is
    (subst (Rises key_of) (sym are) (rows-rise s.attribute s.from s.below (brought s.tape) (logged_rows s.attribute s.tape) us may (λ n h. logged-all (λ (r : Row). r.key < n) s.attribute s.tape h) c.self.invariant.0.rows_rise))

pub restart_with-requires-clause-within : goal.restart_with-requires-clause-within
restart_with-requires-clause-within g c κs within =
    let s = c.self.inside in
    let us = c.args.updates.now in
    let live = c.in_ok-live.live in
    let may : AreReceivable s.attribute s.from s.below (brought s.tape) (logged_rows s.attribute s.tape) us = subst (λ (v : AreaState). AreReceivable v.attribute v.from v.below (brought v.tape) (logged_rows v.attribute v.tape) us) (sym c.self.view_is) c.requires.receivable in
    let are = tied-after s.attribute s.tape s.live live _ us c.load_of.ensures c.self.invariant.1 c.in_ok-live.ensures.1 in
    subst (λ (v : AreaState). All (λ (r : Row). lies_within v.attribute v.from v.below r ≡ true) (live_among (first_rows v.tape) live)) c.self.view_is
    (subst (All (λ (r : Row). lies_within s.attribute s.from s.below r ≡ true)) (sym are) (after-all (λ (r : Row). lies_within s.attribute s.from s.below r ≡ true) s.attribute s.from s.below (brought s.tape) (logged_rows s.attribute s.tape) us may (λ r fits lies. lies) c.self.invariant.0.within))
