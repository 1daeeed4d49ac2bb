use Rattle.std.proofs.Common.{rules}
use Rattle.sw_set.proofs.Areas.Shelves.{area-new}
use Rattle.sw_set.proofs.Areas.Ties.{tied-loaded}
use Rattle.sw_set.proofs.area.Area.of.Goals as goal

pub invariant_of-result : goal.invariant_of-result
invariant_of-result g c = (
  rw (c.in_ok-tape.ensures, c.new.ensures, c.new-2.ensures) (area-new _ _ _ _ _ c.requires.attribute c.requires.keys c.requires.rise c.requires.within),
  rw (c.in_ok-tape.ensures, c.in_ok-live.ensures) (tied-loaded _ _ _ (search rules)),
)
