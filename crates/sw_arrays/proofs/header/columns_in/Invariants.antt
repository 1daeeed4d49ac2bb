use Rattle.std.proofs.Common.{◌≡◌, take}
use Rattle.sw_arrays.specs.Columns.{columns_in}
use Rattle.sw_arrays.proofs.header.columns_in.Given as goal

abbrev pub invariant-loop-attribute : goal.invariant-loop-attribute
invariant-loop-attribute l = l.columns.items ≡ columns_in (take l.attribute-index l.attributes)
