use Rattle.std.proofs.Common.{◌∙◌, ◌++◌, ap, codes, map}
use Rattle.sw_lang.specs.Replies.{kind_at}
use Rattle.sw_outputs.specs.JsonLines.{list_json, names_json, row_json}
use Rattle.sw_outputs.specs.Texts.{value_text}
use Rattle.sw_outputs.proofs.Pieces.{rows_parts}
use Rattle.sw_outputs.proofs.lines.put_shown.Goals as goal

pub returns : goal.returns
returns c =
    let columns = c.args.schema.now in
    let attrs = c.args.attrs.now in
    let rows = value_text (list_json (map (row_json (map (kind_at columns) attrs)) c.args.rows.now)) in
    let named = c.in_ok-put_columns.ensures ∙ ap (λ t. t ++ value_text (names_json columns attrs)) c.in_ok-extend_from_slice.ensures.items in
    let word = c.in_ok-extend_from_slice-2.ensures.items ∙ ap (λ t. t ++ codes ",\"rows\":") named in
    let all = c.in_ok-put_rows.ensures ∙ ap (λ t. t ++ rows) word in
    c.in_ok-push.ensures.items ∙ ap (λ t. t ++ codes "}") all ∙ rows_parts c.args.line.now.items columns attrs c.args.rows.now
