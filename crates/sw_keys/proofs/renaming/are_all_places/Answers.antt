use Rattle.std.proofs.Common.{arith}
use Rattle.sw_keys.proofs.renaming.are_all_places.Goals as goal

pub returns : goal.returns
returns c = λ told. record {
  many = omega arith;
  within = c.are_below-below.ensures.0 c.if-not-below.false;
  once = c.are_once.ensures told;
}
