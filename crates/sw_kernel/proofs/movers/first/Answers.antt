use Rattle.sw_kernel.proofs.Blocks.{first-set}
use Rattle.sw_kernel.proofs.movers.first.Goals as goal

pub returns-clause-first : goal.returns-clause-first
returns-clause-first c = (first-set c.args.movers c.requires c.ranges.movers.fits).1
