use Rattle.std.proofs.Common.{length, map}
use Rattle.sw_lang.specs.Replies.{kind_at}
use Rattle.sw_outputs.specs.Fields.{keyed_fields, records_text}
use Rattle.sw_outputs.proofs.Making.{GoesOver}
use Rattle.sw_outputs.proofs.records.add_keyed_rows.Given as goal

abbrev pub invariant-loop-key : goal.invariant-loop-key
invariant-loop-key l = GoesOver l.fn.records l.records (records_text (map (keyed_fields (map (kind_at l.schema) l.attrs)) l.rows)) (records_text (map (keyed_fields (map (kind_at l.schema) l.attrs)) l.left))

abbrev pub decreases-loop-key : goal.decreases-loop-key
decreases-loop-key l = length l.left
