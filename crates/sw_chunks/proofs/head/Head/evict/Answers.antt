use Rattle.std.proofs.Common.{rules, ◌≡◌, List, length, subst, sym}
use Rattle.sw_set.specs.Shelf.{AreaState}
use Rattle.sw_set.specs.Prepared.{IsSameButBoxes}
use Rattle.sw_chunks.specs.Cleared.{AreEach}
use Rattle.sw_chunks.specs.Heads.{HeadState, IsHeadLawful, told_in}
use Rattle.sw_chunks.proofs.Standing.{lawful-same, whole}
use Rattle.sw_chunks.proofs.Steps.{boxes-stand}
use Rattle.sw_chunks.proofs.head.Head.evict.Goals as goal

pub invariant_of-self : goal.invariant_of-self
invariant_of-self g c =
    let was : HeadState = record { attribute = c.self.inside.attribute; cuts = c.self.inside.cuts.items; updates = told_in c.self.inside.told.rows; areas = c.self.inside.areas.items } in
    let same : AreEach IsSameButBoxes c.self.inside.areas.items c.clear_but.new.areas = search rules in
    let many : c.self.inside.areas.len ≡ length c.self.inside.areas.items = search rules in (
      subst (λ (l : List AreaState). IsHeadLawful (record was { areas = l }))
          (sym (whole c.self.inside.areas.len c.clear_but.new.areas c.self.inside.areas.items many same.0)) (lawful-same was c.clear_but.new.areas (same.0, λ k d e lt. boxes-stand _ _ (same.1 k d e lt)) c.self.invariant.0),
      c.self.invariant.1,
    )
