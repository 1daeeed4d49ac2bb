use Rattle.std.proofs.Common.{◌≡◌, ◌<◌, false, get_or, subst}
use Rattle.sw_map.specs.Held.{Held, blank}
use Rattle.sw_map.specs.Refusals.{HasGrownOr}
use Rattle.sw_set.proofs.Areas.Aligning.{at-own, at-place, at-set}
use Rattle.sw_set.proofs.area.boxes.Boxes.grow_at.Goals as goal

pub grow_box-requires-clause-begun : goal.grow_box-requires-clause-begun
grow_box-requires-clause-begun g c κs within = at-place g.M.CrackerMap.held _ _ _ _ c.self.view_is c.requires.within c.index_mut.ensures.value (λ m. m.is_blank ≡ false) c.requires.begun

pub grow_box-requires-clause-more : goal.grow_box-requires-clause-more
grow_box-requires-clause-more g c κs within = at-place g.M.CrackerMap.held _ _ _ _ c.self.view_is c.requires.within c.index_mut.ensures.value (λ m. m.cells < c.args.cells) c.requires.more

pub returns-clause-grown : goal.returns-clause-grown
returns-clause-grown g c =
    let held = g.M.CrackerMap.held in
    let own = at-own held c.args.self.now c.self.inside.maps.items c.args.at _ c.self.view_is c.requires.within c.index_mut.ensures.value blank in
    at-set held c.args.self.now c.self.inside.maps.items c.args.at _ c.self.view_is c.requires.within c.index_mut.ensures.value c.grow_box.new.it (HasGrownOr c.grow_box.result c.args.cells (get_or c.args.self.now c.args.at blank))
    (subst (λ (m : Held). HasGrownOr c.grow_box.result c.args.cells m (held c.grow_box.new.it)) own c.grow_box.ensures.grown)
