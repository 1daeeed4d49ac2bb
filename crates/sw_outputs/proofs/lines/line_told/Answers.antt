use Rattle.std.proofs.Common.{◌∙◌, ◌++◌, ap, codes}
use Rattle.json.specs.Print.{quoted}
use Rattle.sw_lang.specs.PrintedCalls.{call_text}
use Rattle.sw_outputs.specs.JsonLines.{answer_json, place_text}
use Rattle.sw_outputs.specs.Texts.{value_text}
use Rattle.sw_outputs.proofs.Pieces.{line_parts}
use Rattle.sw_outputs.proofs.lines.line_told.Goals as goal

pub returns : goal.returns
returns c =
    let columns = c.args.schema.now in
    let told = c.args.told.now in
    let place = c.in_ok-put_place.ensures ∙ ap (λ t. t ++ place_text told) c.new-line.ensures.items in
    let called = c.in_ok-put_called.ensures ∙ ap (λ t. t ++ quoted (call_text columns told.call.now)) place in
    let word = c.in_ok-extend_from_slice.ensures.items ∙ ap (λ t. t ++ codes ",\"reply\":") called in
    let answer = c.in_ok-put_answer.ensures ∙ ap (λ t. t ++ value_text (answer_json columns told.call.now told.reply)) word in
    c.in_ok-extend_from_slice-2.ensures.items ∙ ap (λ t. t ++ codes "}\n") answer ∙ line_parts columns told
