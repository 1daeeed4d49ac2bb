use Rattle.std.proofs.Common.{◌≡◌, ◌++◌, length, map, true}
use Rattle.sw_lang.specs.Replies.{kind_at}
use Rattle.sw_outputs.specs.JsonLines.{cells_json}
use Rattle.sw_outputs.specs.Texts.{items_of, items_text}
use Rattle.sw_outputs.proofs.lines.put_cells.Given as goal

abbrev pub invariant-loop-attr : goal.invariant-loop-attr
invariant-loop-attr l = l.fn.line.items ++ items_text true (items_of (cells_json (map (kind_at l.schema) l.fn.attrs) l.fn.cells)) ≡ l.line.items ++ items_text true (items_of (cells_json (map (kind_at l.schema) l.attrs) l.cells))

abbrev pub decreases-loop-attr : goal.decreases-loop-attr
decreases-loop-attr l = length l.attrs
