use Rattle.sw_kernel.proofs.Blocks.{bit-cleared, ones-cleared}
use Rattle.sw_kernel.proofs.movers.without.Goals as goal

pub returns-clause-gone : goal.returns-clause-gone
returns-clause-gone c = bit-cleared c.args.movers c.args.place c.requires.within c.ranges.movers.fits

pub returns-clause-fewer : goal.returns-clause-fewer
returns-clause-fewer c = ones-cleared c.args.movers c.args.place c.requires.within c.ranges.movers.fits c.requires.set
