use Rattle.std.proofs.Common.{◌≡◌, drop}
use Rattle.sw_arrays.specs.Columns.{lacking_in}
use Rattle.sw_arrays.proofs.columns.lacking_in.Given as goal

abbrev pub invariant-loop-attr : goal.invariant-loop-attr
invariant-loop-attr l = lacking_in l.schema l.many l.attr (drop l.attr l.columns) ≡ lacking_in l.schema l.many 0 l.columns
