use Rattle.std.proofs.Common.{length, map}
use Rattle.sw_lang.specs.Replies.{kind_at}
use Rattle.sw_outputs.specs.Fields.{records_text, row_fields}
use Rattle.sw_outputs.proofs.Making.{GoesOver}
use Rattle.sw_outputs.proofs.records.add_rows.Given as goal

abbrev pub invariant-loop-cells : goal.invariant-loop-cells
invariant-loop-cells l = GoesOver l.fn.records l.records (records_text (map (row_fields (map (kind_at l.schema) l.attrs)) l.rows)) (records_text (map (row_fields (map (kind_at l.schema) l.attrs)) l.left))

abbrev pub decreases-loop-cells : goal.decreases-loop-cells
decreases-loop-cells l = length l.left
