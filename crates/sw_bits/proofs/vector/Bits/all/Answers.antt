use Rattle.std.proofs.Common.{arith}
use Rattle.sw_bits.proofs.Words.{places-true}
use Rattle.sw_bits.proofs.vector.Bits.all.Goals as goal

pub returns : goal.returns
returns c = places-true _ 0 c.args.len (λ k l u. c.in_ok-words.ensures.ones k (omega arith))
