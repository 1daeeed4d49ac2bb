use Rattle.sw_query.specs.declared.bound.Bound.TheVariants.{Before}
use Rattle.sw_kernel.specs.Blocks.{Tells, goes_up}
use Rattle.sw_kernel.proofs.movers.up_of.Given as goal

abbrev pub invariant-loop-k : goal.invariant-loop-k
invariant-loop-k l = Tells (goes_up (Before l.value) l.head l.from) l.k l.movers
