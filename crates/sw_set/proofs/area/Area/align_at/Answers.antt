use Rattle.std.proofs.Common.{◌≡◌, ◌<◌, ◌≤◌, OnErr, false, length, sym, subst}
use Rattle.sw_kernel.specs.Tapes.{peak_from}
use Rattle.sw_map.specs.Held.{Held}
use Rattle.sw_set.specs.Aligned.{AreSameMaps, IsStalled}
use Rattle.sw_set.specs.Boxed.{HasAt}
use Rattle.sw_set.specs.Shelf.{AreaState}
use Rattle.sw_set.specs.Sought.{HasReachedOr}
use Rattle.sw_set.proofs.Areas.Aligning.{area-stepped}
use Rattle.sw_set.proofs.Areas.Boxes.{own-aligned}
use Rattle.sw_set.proofs.Areas.Shelves.{same-but}
use Rattle.sw_set.proofs.area.Area.align_at.Goals as goal

pub align_at-requires-clause-aligned : goal.align_at-requires-clause-aligned
align_at-requires-clause-aligned g c κs within =
    let inside : c.args.at < length c.self.inside.boxes = subst (λ (v : AreaState). c.args.at < length v.boxes) (sym c.self.view_is) c.requires.within in
    let begun : HasAt c.self.inside.boxes c.args.at (λ (b : Held). b.is_blank ≡ false) = subst (λ (v : AreaState). HasAt v.boxes c.args.at (λ (b : Held). b.is_blank ≡ false)) (sym c.self.view_is) c.requires.begun in
    λ d. own-aligned _ _ _ (c.self.invariant.0.boxes c.args.at d inside) (begun d)

pub align_at-requires-clause-room : goal.align_at-requires-clause-room
align_at-requires-clause-room g c κs within = subst (λ (v : AreaState). HasAt v.boxes c.args.at (λ (b : Held). peak_from 0 v.tape ≤ b.cells)) (sym c.self.view_is) c.requires.room

pub invariant_of-self : goal.invariant_of-self
invariant_of-self g c =
    let inside : c.args.at < length c.self.inside.boxes = subst (λ (v : AreaState). c.args.at < length v.boxes) (sym c.self.view_is) c.requires.within in
    let begun : HasAt c.self.inside.boxes c.args.at (λ (b : Held). b.is_blank ≡ false) = subst (λ (v : AreaState). HasAt v.boxes c.args.at (λ (b : Held). b.is_blank ≡ false)) (sym c.self.view_is) c.requires.begun in
    (area-stepped _ _ _ _ _ _ _ _ _ inside begun c.align_at.ensures.aligned c.align_at.ensures.maps c.self.invariant.0, c.self.invariant.1)

pub returns-clause-same : goal.returns-clause-same
returns-clause-same g c = same-but _ _ _ _ _ _ _ _ _ c.self.view_is c.align_at.ensures.maps.many

pub returns-clause-maps : goal.returns-clause-maps
returns-clause-maps g c = subst (λ (v : AreaState). AreSameMaps v.boxes c.align_at.new.self) c.self.view_is c.align_at.ensures.maps

pub returns-clause-ends : goal.returns-clause-ends
returns-clause-ends g c = subst (λ (v : AreaState). HasReachedOr c.align_at.result c.args.at (length v.tape) v.boxes c.align_at.new.self) c.self.view_is c.align_at.ensures.ends

pub returns-clause-stalled : goal.returns-clause-stalled
returns-clause-stalled g c = subst (λ (v : AreaState). OnErr c.align_at.result (IsStalled g.M.CrackerMap.stalls v.tape)) c.self.view_is c.align_at.ensures.stalled
