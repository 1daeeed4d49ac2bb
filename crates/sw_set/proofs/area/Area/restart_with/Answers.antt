use Rattle.std.proofs.Common.{◌≡◌, ◌<◌, ◌^◌, ◌++◌, ◌∷◌, [], true, length, ap, sym, ◌∙◌, subst, arith, All}
use Rattle.sw_table.specs.declared.row.Row.{Row}
use Rattle.sw_kernel.specs.Replay.{loaded}
use Rattle.sw_tape.specs.Restart.{first_rows}
use Rattle.sw_set.specs.Live.{live_among}
use Rattle.sw_set.specs.Shelf.{AreReceivable, AreaState, Rises, key_of, lies_within}
use Rattle.sw_table.proofs.LiveLaws.{kept-long}
use Rattle.sw_set.proofs.Areas.Shelves.{area-begun, begun-shell}
use Rattle.sw_set.proofs.Areas.Ties.{tied-loaded}
use Rattle.sw_set.proofs.area.Area.restart_with.Goals as goal

pub invariant_of-self-2 : goal.invariant_of-self-2
invariant_of-self-2 g c =
    let s = c.self.inside in
    let live = c.args.live in
    let rows = live_among (first_rows s.tape) live in
    let flags : length live.flags ≡ length (first_rows s.tape ++ live.later) = subst (λ (v : AreaState). length live.flags ≡ length (first_rows v.tape ++ live.later)) (sym c.self.view_is) c.requires.many in
    let long = kept-long live.flags (first_rows s.tape ++ live.later) flags in
    let counted = c.count.ensures in
    let count : c.count.result ≡ length rows = omega (arith, long, counted) in
    let tape : c.restart_live.new.self ≡ loaded rows ∷ [] = rw (c.later.ensures, c.flags.ensures) at c.in_ok-restart_live.ensures.ok in
    let keys : All (λ (r : Row). r.key < 2 ^ 63) rows = subst (λ (v : AreaState). All (λ (r : Row). r.key < 2 ^ 63) (live_among (first_rows v.tape) live)) (sym c.self.view_is) c.requires.keys in
    let rise : Rises key_of rows = subst (λ (v : AreaState). Rises key_of (live_among (first_rows v.tape) live)) (sym c.self.view_is) c.requires.rise in
    let within : All (λ (r : Row). lies_within s.attribute s.from s.below r ≡ true) rows = subst (λ (v : AreaState). All (λ (r : Row). lies_within v.attribute v.from v.below r ≡ true) (live_among (first_rows v.tape) live)) (sym c.self.view_is) c.requires.within in
    let receivable : AreReceivable s.attribute s.from s.below rows rows s.inbox.updates = subst (λ (v : AreaState). AreReceivable v.attribute v.from v.below (live_among (first_rows v.tape) live) (live_among (first_rows v.tape) live) v.inbox) (sym c.self.view_is) c.requires.receivable in (
      rw tape (area-begun s.attribute s.from s.below s.inbox.updates _ rows c.reset.new.self c.self.invariant.0.attribute keys rise within c.reset.ensures.blank receivable),
      rw (tape, c.in_ok-all.ensures) (tied-loaded s.attribute rows c.count.result count),
    )

pub returns : goal.returns
returns g c =
    let s = c.self.inside in
    let live = c.args.live in
    let rows = live_among (first_rows c.args.self.now.tape) live in
    let tape : c.restart_live.new.self ≡ loaded (live_among (first_rows s.tape) live) ∷ [] = rw (c.later.ensures, c.flags.ensures) at c.in_ok-restart_live.ensures.ok in
    let loads : c.restart_live.new.self ≡ loaded rows ∷ [] = tape ∙ ap (λ (v : AreaState). loaded (live_among (first_rows v.tape) live) ∷ []) c.self.view_is in
    begun-shell _ _ _ _ _ _ _ _ rows s.boxes c.reset.new.self c.self.view_is loads c.reset.ensures.many c.reset.ensures.blank
