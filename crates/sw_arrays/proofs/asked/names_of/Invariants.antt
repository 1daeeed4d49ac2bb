use Rattle.std.proofs.Common.{◌≡◌, take}
use Rattle.sw_arrays.proofs.asked.names_of.Given as goal

abbrev pub invariant-loop-attribute : goal.invariant-loop-attribute
invariant-loop-attribute l = l.names ≡ take l.attribute-index l.attributes
