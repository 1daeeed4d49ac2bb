use Rattle.std.proofs.Common.{true≢false}
use Rattle.sw_map.proofs.Replays.{lawful-blank}
use Rattle.sw_set.proofs.Areas.Shelves.{area-set, view-set}
use Rattle.sw_set.proofs.area.Area.clear_at.Goals as goal

pub invariant_of-self : goal.invariant_of-self
invariant_of-self g c = (rw c.clear_at.ensures (area-set _ _ _ _ _ _ _ _ _ (lawful-blank _ _) (λ no. absurd (true≢false no)) (λ no. absurd (true≢false no)) c.self.invariant.0), c.self.invariant.1)

pub returns : goal.returns
returns g c = view-set _ _ _ _ _ _ _ _ _ _ _ c.self.view_is c.clear_at.ensures
