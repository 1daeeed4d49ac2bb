use Rattle.std.proofs.Common.{◌≡◌, [], drop}
use Rattle.sw_arrays.specs.Asked.{conds_after}
use Rattle.sw_arrays.proofs.range.conds_of.Given as goal

abbrev pub invariant-loop-range : goal.invariant-loop-range
invariant-loop-range l = conds_after l.schema l.conds (drop l.range-index l.ranges) ≡ conds_after l.schema [] l.ranges
