use Rattle.std.proofs.Common.{length, map}
use Rattle.sw_outputs.specs.Fields.{header_field}
use Rattle.sw_outputs.proofs.Making.{GoesOn}
use Rattle.sw_outputs.proofs.records.add_header.Given as goal

abbrev pub invariant-loop-attr : goal.invariant-loop-attr
invariant-loop-attr l = GoesOn l.fn.records l.records (map (header_field l.schema) l.attrs) (map (header_field l.schema) l.rest)

abbrev pub decreases-loop-attr : goal.decreases-loop-attr
decreases-loop-attr l = length l.rest
