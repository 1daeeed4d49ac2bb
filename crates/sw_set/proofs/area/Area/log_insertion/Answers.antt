use Rattle.std.proofs.Common.{◌≡◌, ◌<◌, [], length, ap, sym, ◌∙◌, subst}
use Rattle.sw_table.specs.declared.row.Update.TheVariants.{Insert}
use Rattle.sw_kernel.specs.Tapes.{brought}
use Rattle.sw_set.specs.Shelf.{AreaState, MayReceive, logged_rows}
use Rattle.sw_set.proofs.Areas.Logging.{area-inserted}
use Rattle.sw_set.proofs.Areas.Ties.{tied-inserted}
use Rattle.sw_set.proofs.area.Area.log_insertion.Goals as goal

pub invariant_of-self-in_default : goal.invariant_of-self-in_default
invariant_of-self-in_default g c =
    let s = c.self.inside in
    let none : s.inbox.updates ≡ [] = ap (λ (v : AreaState). v.inbox) c.self.view_is ∙ c.requires.received in
    let room : length s.tape < 4096 = subst (λ (v : AreaState). length v.tape < 4096) (sym c.self.view_is) c.requires.room in
    let may : MayReceive s.attribute s.from s.below (brought s.tape) (logged_rows s.attribute s.tape) (Insert c.args.row) = subst (λ (v : AreaState). MayReceive v.attribute v.from v.below (brought v.tape) (logged_rows v.attribute v.tape) (Insert c.args.row)) (sym c.self.view_is) c.requires.may in (
      rw c.in_default.ensures.ok (area-inserted s.attribute s.from s.below s.inbox.updates _ s.tape s.boxes c.args.row none room may c.self.invariant.0),
      rw (c.in_default.ensures.ok, c.in_ok-push.ensures) (tied-inserted s.attribute s.tape s.live c.args.row c.self.invariant.0.tape c.self.invariant.1),
    )
