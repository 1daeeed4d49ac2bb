use Rattle.std.proofs.Common.{◌≡◌, ◌<◌, false, length, sym, subst}
use Rattle.sw_map.specs.Held.{Held}
use Rattle.sw_set.specs.Boxed.{HasAt}
use Rattle.sw_set.specs.Shelf.{AreaState}
use Rattle.sw_set.proofs.Areas.Grown.{grown-area, grown-at}
use Rattle.sw_set.proofs.area.Area.grow_at.Goals as goal

pub grow_at-requires-clause-begun : goal.grow_at-requires-clause-begun
grow_at-requires-clause-begun g c κs within = subst (λ (v : AreaState). HasAt v.boxes c.args.at (λ (b : Held). b.is_blank ≡ false)) (sym c.self.view_is) c.requires.begun

pub grow_at-requires-clause-more : goal.grow_at-requires-clause-more
grow_at-requires-clause-more g c κs within = subst (λ (v : AreaState). HasAt v.boxes c.args.at (λ (b : Held). b.cells < c.args.cells)) (sym c.self.view_is) c.requires.more

pub invariant_of-self : goal.invariant_of-self
invariant_of-self g c =
    let within : c.args.at < length c.self.inside.boxes = subst (λ (v : AreaState). c.args.at < length v.boxes) (sym c.self.view_is) c.requires.within in
    let begun : HasAt c.self.inside.boxes c.args.at (λ (b : Held). b.is_blank ≡ false) = subst (λ (v : AreaState). HasAt v.boxes c.args.at (λ (b : Held). b.is_blank ≡ false)) (sym c.self.view_is) c.requires.begun in
    let more : HasAt c.self.inside.boxes c.args.at (λ (b : Held). b.cells < c.args.cells) = subst (λ (v : AreaState). HasAt v.boxes c.args.at (λ (b : Held). b.cells < c.args.cells)) (sym c.self.view_is) c.requires.more in
    (grown-area _ _ _ _ _ _ _ _ _ _ _ within begun more c.grow_at.ensures.grown c.self.invariant.0, c.self.invariant.1)

pub returns-clause-grown : goal.returns-clause-grown
returns-clause-grown g c = grown-at _ _ _ _ _ _ _ _ _ _ _ _ c.self.view_is c.grow_at.ensures.grown
