use Rattle.std.proofs.Common.{◌≤◌, ◌∙◌, ap, map, length, arith}
use Rattle.std.specs.Prelude.{string_bytes}
use Rattle.std.proofs.lemmas.List.{take_all}
use Rattle.serde_json.specs.Data.{array, string}
use Rattle.serde_json.specs.View.{items_of}
use Rattle.serde_json.proofs.Views.{view-Array}
use Rattle.sw_histories.proofs.Back.RecordTextLemmas.{map_twice}
use Rattle.sw_histories.proofs.writing.lines_value.Goals as goal

pub returns : goal.returns
returns c =
    let past : length c.args.lines.now ≤ c.loop-line.line-index = omega arith in
    let all = c.loop-line.invariant ∙ ap (map (λ t. string (string_bytes t))) (take_all c.loop-line.line-index c.args.lines.now past) in
    view-Array c.loop-line.items ∙ ap (λ ds. array (items_of ds)) (all ∙ map_twice (λ t. string t) (λ t. string_bytes t) c.args.lines.now)
