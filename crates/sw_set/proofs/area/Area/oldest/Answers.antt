use Rattle.std.proofs.Common.{MatchOption, subst}
use Rattle.sw_set.specs.Sought.{AreAllBlank, HaveSomeMap}
use Rattle.sw_set.specs.Shelf.{AreaState}
use Rattle.sw_set.proofs.area.Area.oldest.Goals as goal

pub returns : goal.returns
returns g c = subst (λ (v : AreaState). MatchOption c.oldest.result (AreAllBlank v.boxes) (λ _. HaveSomeMap v.boxes)) c.self.view_is c.oldest.ensures
