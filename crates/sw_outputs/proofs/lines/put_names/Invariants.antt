use Rattle.std.proofs.Common.{◌≡◌, ◌++◌, length, map, true}
use Rattle.sw_outputs.specs.JsonLines.{name_json}
use Rattle.sw_outputs.specs.Texts.{items_of, items_text}
use Rattle.sw_outputs.proofs.lines.put_names.Given as goal

abbrev pub invariant-loop-attr : goal.invariant-loop-attr
invariant-loop-attr l = l.fn.line.items ++ items_text true (items_of (map (name_json l.schema) l.attrs)) ≡ l.line.items ++ items_text true (items_of (map (name_json l.schema) l.rest))

abbrev pub decreases-loop-attr : goal.decreases-loop-attr
decreases-loop-attr l = length l.rest
