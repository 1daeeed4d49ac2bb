use Rattle.std.proofs.Common.{arith}
use Rattle.sw_set.proofs.Preparing.Noting.{peak-few}
use Rattle.sw_set.proofs.area.Area.peak.Goals as goal

pub returns-clause-few : goal.returns-clause-few
returns-clause-few g c = let few = peak-few _ c.self.invariant.0 in let is = c.peak.ensures in omega (arith, few, is)
