use Rattle.std.proofs.Common.{◌≡◌, ◌<◌, [], sym, subst, List}
use Rattle.sw_table.specs.declared.row.Row.{Row}
use Rattle.sw_kernel.specs.Tapes.{brought}
use Rattle.sw_tape.specs.Restart.{first_rows}
use Rattle.sw_set.specs.Live.{live_among}
use Rattle.sw_set.specs.Shelf.{AreReceivable, AreaState, logged_rows}
use Rattle.sw_set.proofs.Areas.Longer.{logged-all}
use Rattle.sw_set.proofs.Areas.Receiving.{receivable-less}
use Rattle.sw_set.proofs.Merging.Restarts.{restarted-same}
use Rattle.sw_set.proofs.Areas.Ties.{tied-after}
use Rattle.sw_set.proofs.area.Area.restart.Goals as goal

pub restart_with-requires-clause-receivable : goal.restart_with-requires-clause-receivable
restart_with-requires-clause-receivable g c κs within =
    let s = c.self.inside in
    let live = c.in_ok-live.live in
    let are : live_among (first_rows s.tape) live ≡ logged_rows s.attribute s.tape = tied-after s.attribute s.tape s.live live _ [] c.load_of.ensures c.self.invariant.1 c.in_ok-live.ensures.1 in
    subst (λ (v : AreaState). AreReceivable v.attribute v.from v.below (live_among (first_rows v.tape) live) (live_among (first_rows v.tape) live) v.inbox) c.self.view_is
    (subst (λ (v : List Row). AreReceivable s.attribute s.from s.below v v s.inbox.updates) (sym are)
    (receivable-less s.attribute s.from s.below (brought s.tape) (logged_rows s.attribute s.tape) (logged_rows s.attribute s.tape) s.inbox.updates (λ n h. logged-all (λ (r : Row). r.key < n) s.attribute s.tape h) c.self.invariant.0.receivable))

pub returns-clause-same : goal.returns-clause-same
returns-clause-same g c =
    let s = c.self.inside in
    let live = c.in_ok-live.live in
    let are : live_among (first_rows s.tape) live ≡ logged_rows s.attribute s.tape = tied-after s.attribute s.tape s.live live _ [] c.load_of.ensures c.self.invariant.1 c.in_ok-live.ensures.1 in
    restarted-same _ _ _ _ (subst (λ (v : AreaState). live_among (first_rows v.tape) live ≡ logged_rows v.attribute v.tape) c.self.view_is are) c.restart_with.ensures
