use Rattle.std.proofs.Common.{◌≡◌, ◌++◌, length, map}
use Rattle.sw_lang.specs.Replies.{kind_at}
use Rattle.sw_outputs.specs.JsonLines.{list_json, row_json}
use Rattle.sw_outputs.specs.Texts.{items_of, items_text, value_text}
use Rattle.sw_outputs.proofs.lines.put_rows.Given as goal

abbrev pub invariant-loop-row : goal.invariant-loop-row
invariant-loop-row l = l.fn.line.items ++ value_text (list_json (map (row_json (map (kind_at l.schema) l.attrs)) l.rows)) ≡ l.line.items ++ items_text l.is_later (items_of (map (row_json (map (kind_at l.schema) l.attrs)) l.left))

abbrev pub decreases-loop-row : goal.decreases-loop-row
decreases-loop-row l = length l.left
