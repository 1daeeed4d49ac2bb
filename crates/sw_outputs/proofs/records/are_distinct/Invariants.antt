use Rattle.std.proofs.Common.{◌≡◌, length}
use Rattle.sw_outputs.specs.Fields.{attrs_differ}
use Rattle.sw_outputs.proofs.records.are_distinct.Given as goal

abbrev pub invariant-loop-attr : goal.invariant-loop-attr
invariant-loop-attr l = attrs_differ l.attrs ≡ attrs_differ l.rest

abbrev pub decreases-loop-attr : goal.decreases-loop-attr
decreases-loop-attr l = length l.rest
