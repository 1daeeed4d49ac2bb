use Rattle.std.proofs.Common.{◌≡◌, ◌<◌, [], true, length, get_or, ap, sym, ◌∙◌, subst}
use Rattle.sw_table.specs.declared.row.Row.{Row}
use Rattle.sw_table.specs.Updates.{has_key}
use Rattle.sw_kernel.specs.Arrangement.{joined}
use Rattle.sw_map.specs.Lawful.{rows_by}
use Rattle.sw_set.specs.Shelf.{AreaState, logged_rows}
use Rattle.sw_set.proofs.Areas.Logging.{area-removal}
use Rattle.sw_set.proofs.Areas.Longer.{place-counted}
use Rattle.sw_set.proofs.Areas.Ties.{tied-lacks, tied-removed}
use Rattle.sw_set.proofs.area.Area.log_removal.Goals as goal

pub unreachable-requires : goal.unreachable-requires
unreachable-requires g c =
    let s = c.self.inside in
    tied-lacks s.attribute s.tape s.live _ c.args.key c.load_of.ensures c.self.invariant.1 c.in_default.ensures (subst (λ (v : AreaState). has_key c.args.key (logged_rows v.attribute v.tape) ≡ true) (sym c.self.view_is) c.requires.live)

pub push-requires : goal.push-requires
push-requires g c =
    let s = c.self.inside in
    let within : c.args.place < length (joined (rows_by s.attribute s.tape)) = subst (λ (v : AreaState). c.args.place < length (joined (rows_by v.attribute v.tape))) (sym c.self.view_is) c.requires.within in
    record { follows = place-counted s.attribute s.tape c.args.place c.self.invariant.0.tape within }

pub invariant_of-self-2 : goal.invariant_of-self-2
invariant_of-self-2 g c =
    let s = c.self.inside in
    let none : s.inbox.updates ≡ [] = ap (λ (v : AreaState). v.inbox) c.self.view_is ∙ c.requires.received in
    let room : length s.tape < 4096 = subst (λ (v : AreaState). length v.tape < 4096) (sym c.self.view_is) c.requires.room in
    let within : c.args.place < length (joined (rows_by s.attribute s.tape)) = subst (λ (v : AreaState). c.args.place < length (joined (rows_by v.attribute v.tape))) (sym c.self.view_is) c.requires.within in
    let own : (d : Row) → (get_or (joined (rows_by s.attribute s.tape)) c.args.place d).key ≡ c.args.key = subst (λ (v : AreaState). (d : Row) → (get_or (joined (rows_by v.attribute v.tape)) c.args.place d).key ≡ c.args.key) (sym c.self.view_is) c.requires.own in (
      rw c.in_ok-push.ensures.ok (area-removal s.attribute s.from s.below s.inbox.updates _ s.tape s.boxes c.args.key c.args.place none room within own c.self.invariant.0),
      rw (c.in_ok-push.ensures.ok, c.remove.ensures) (tied-removed s.attribute s.tape s.live _ c.args.place c.args.key c.in-Some.at c.load_of.ensures c.self.invariant.0.tape c.self.invariant.0.brought_rise within own c.in-Some.ensures.0 c.in-Some.ensures.1 c.self.invariant.1),
    )
