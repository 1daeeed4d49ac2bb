use Rattle.sw_query.specs.declared.bound.Bound.TheVariants.{Before}
use Rattle.sw_kernel.specs.Blocks.{Tells, goes_down}
use Rattle.sw_kernel.proofs.movers.down_of.Given as goal

abbrev pub invariant-loop-k : goal.invariant-loop-k
invariant-loop-k l = Tells (goes_down (Before l.value) l.head l.end) l.k l.movers
