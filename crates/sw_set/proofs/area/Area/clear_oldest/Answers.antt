use Rattle.std.proofs.Common.{◌≡◌, subst}
use Rattle.sw_set.specs.Boxed.{IsOneCleared}
use Rattle.sw_set.specs.Shelf.{AreaState}
use Rattle.sw_set.specs.Sought.{AreAllBlank}
use Rattle.sw_set.proofs.Areas.Shelves.{same-but}
use Rattle.sw_set.proofs.Areas.Views.{area-one-cleared, many-one-cleared}
use Rattle.sw_set.proofs.area.Area.clear_oldest.Goals as goal

pub invariant_of-self : goal.invariant_of-self
invariant_of-self g c = (area-one-cleared _ _ _ _ _ _ _ _ _ c.clear_oldest.ensures.cleared c.self.invariant.0, c.self.invariant.1)

pub returns-clause-same : goal.returns-clause-same
returns-clause-same g c = same-but _ _ _ _ _ _ _ _ _ c.self.view_is (many-one-cleared _ _ _ c.clear_oldest.ensures.cleared)

pub returns-clause-cleared : goal.returns-clause-cleared
returns-clause-cleared g c = subst (λ (v : AreaState). IsOneCleared v.boxes c.clear_oldest.new.self c.clear_oldest.result) c.self.view_is c.clear_oldest.ensures.cleared

pub returns-clause-none : goal.returns-clause-none
returns-clause-none g c = subst (λ (v : AreaState). c.clear_oldest.result ≡ 0 → AreAllBlank v.boxes) c.self.view_is c.clear_oldest.ensures.none
