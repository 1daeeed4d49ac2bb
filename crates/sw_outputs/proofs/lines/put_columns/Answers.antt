use Rattle.std.proofs.Common.{◌∙◌, ◌++◌, ap, map, true}
use Rattle.sw_outputs.specs.JsonLines.{name_json}
use Rattle.sw_outputs.specs.Texts.{items_of, items_text}
use Rattle.sw_outputs.proofs.Pieces.{names_parts}
use Rattle.sw_outputs.proofs.lines.put_columns.Goals as goal

pub returns : goal.returns
returns c =
    let names = items_text true (items_of (map (name_json c.args.schema.now) c.args.attrs.now)) in
    c.in_ok-put_names.ensures ∙ ap (λ t. t ++ names) c.in_ok-extend_from_slice.ensures.items ∙ names_parts c.args.line.now.items c.args.schema.now c.args.attrs.now
