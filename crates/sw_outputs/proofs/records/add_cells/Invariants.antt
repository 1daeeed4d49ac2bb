use Rattle.std.proofs.Common.{length, map}
use Rattle.sw_lang.specs.Replies.{kind_at}
use Rattle.sw_outputs.specs.Fields.{cell_fields}
use Rattle.sw_outputs.proofs.Making.{GoesOn}
use Rattle.sw_outputs.proofs.records.add_cells.Given as goal

abbrev pub invariant-loop-attr : goal.invariant-loop-attr
invariant-loop-attr l = GoesOn l.fn.records l.records (cell_fields (map (kind_at l.schema) l.fn.attrs) l.fn.cells) (cell_fields (map (kind_at l.schema) l.attrs) l.cells)

abbrev pub decreases-loop-attr : goal.decreases-loop-attr
decreases-loop-attr l = length l.attrs
