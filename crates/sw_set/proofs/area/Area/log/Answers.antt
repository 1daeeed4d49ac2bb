use Rattle.std.proofs.Common.{◌<◌, length, sym, subst, List}
use Rattle.sw_table.specs.declared.row.Row.{Row}
use Rattle.sw_kernel.specs.Replay.{Step}
use Rattle.sw_set.specs.Shelf.{AreaState, IsAreaLawful}
use Rattle.sw_set.specs.Tied.{IsTied}
use Rattle.sw_set.proofs.Areas.Shelves.{area_of, area-logged, pushed}
use Rattle.sw_set.proofs.Areas.Ties.{tied-ranged}
use Rattle.sw_set.proofs.area.Area.log.Goals as goal

pub invariant_of-self : goal.invariant_of-self
invariant_of-self g c =
    let s = c.self.inside in
    let room : length s.tape < 4096 = subst (λ (v : AreaState). length v.tape < 4096) (sym c.self.view_is) c.requires in (
      pushed (λ (t : List (Step Row)). IsAreaLawful (area_of s.attribute s.from s.below s.inbox.updates s.inbox.spare t s.boxes)) _ _ _ _ c.push.ensures.ok c.push.ensures.err (area-logged _ _ _ _ _ _ _ c.args.lower c.args.upper room c.self.invariant.0) c.self.invariant.0,
      pushed (λ (t : List (Step Row)). IsTied s.attribute t s.live) _ _ _ _ c.push.ensures.ok c.push.ensures.err (tied-ranged s.attribute s.tape s.live c.args.lower c.args.upper c.self.invariant.0.tape c.self.invariant.1) c.self.invariant.1,
    )
