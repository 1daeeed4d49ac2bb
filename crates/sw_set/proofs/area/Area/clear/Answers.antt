use Rattle.std.proofs.Common.{subst}
use Rattle.sw_set.specs.Boxed.{IsCleared}
use Rattle.sw_set.specs.Shelf.{AreaState}
use Rattle.sw_set.proofs.Areas.Shelves.{same-but}
use Rattle.sw_set.proofs.Areas.Views.{area-cleared}
use Rattle.sw_set.proofs.area.Area.clear.Goals as goal

pub invariant_of-self : goal.invariant_of-self
invariant_of-self g c = (area-cleared c.args.tail _ _ _ _ _ _ _ _ c.clear.ensures c.self.invariant.0, c.self.invariant.1)

pub returns-clause-same : goal.returns-clause-same
returns-clause-same g c = same-but _ _ _ _ _ _ _ _ _ c.self.view_is c.clear.ensures.many

pub returns-clause-cleared : goal.returns-clause-cleared
returns-clause-cleared g c = subst (λ (v : AreaState). IsCleared c.args.tail v.boxes c.clear.new.self) c.self.view_is c.clear.ensures
