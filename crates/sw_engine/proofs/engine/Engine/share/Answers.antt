use Rattle.std.proofs.Common.{◌<◌, length, arith}
use Rattle.sw_engine.proofs.engine.Engine.share.Goals as goal

pub index-requires : goal.index-requires
index-requires g c =
    let less : c.head_of.result < length g.J.Naming.columns = c.head_of.ensures.below (length g.J.Naming.columns) c.self.invariant.1 c.requires.0 in
    omega (arith, less, c.self.invariant.0)
