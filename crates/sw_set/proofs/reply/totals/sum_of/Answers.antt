use Rattle.std.proofs.Common.{arith}
use Rattle.std.proofs.lemmas.Int.{ints, to_z-of_z}
use Rattle.std.proofs.lemmas.Grind.{common_steps}
use Rattle.sw_set.proofs.Replying.Choosing.{total_next}
use Rattle.sw_set.proofs.reply.totals.sum_of.Goals as goal

pub loop-value-preserved : goal.loop-value-preserved
loop-value-preserved c = (grind (arith, common_steps, to_z-of_z, total_next), (omega (arith, ints), omega (arith, ints)))
