use Rattle.std.proofs.Common.{◌≡◌, ◌∙◌, ap, sym, refl, ◌∷◌, length, None, [], arith}
use Rattle.std.specs.Prelude.{option_and_then, option_map}
use Rattle.json.specs.Token.{Token}
use Rattle.json.specs.Json.{items, parse_map, value}
use Rattle.json.specs.Reads.{token_of}
use Rattle.json.proofs.Grammar.{value_is, value-begin_array}
use Rattle.serde_json.specs.Data.{array}
use Rattle.serde_json.specs.Read.{converted, of_json}
use Rattle.serde_json.specs.View.{items_view, view}
use Rattle.serde_json.proofs.Views.{view-Array}
use Rattle.sw_histories.specs.RecordReading.{items_list}
use Rattle.sw_histories.specs.Outlines.{after_bracket, values_in}
use Rattle.sw_histories.proofs.Found.ValueReading.{converted-array}
use Rattle.sw_histories.proofs.Found.OutlineLemmas.{kept, not_array}
use Rattle.sw_histories.proofs.reading.outline.read_emptied.Goals as goal

pub returns-in-Ok-clause-ok : goal.returns-in-Ok-clause-ok
returns-in-Ok-clause-ok c =
    let ts = c.next.new.self in
    let first : c.args.reader.now ≡ Token.begin_array ∷ ts = grind arith in
    let opened = ap (converted of_json) (ap (value 126) first ∙ value-begin_array 126 ts (omega arith)) ∙ converted-array (items (value 125) (length ts) ts) in
    let counted = c.in-Ok.ensures.ok in
    let empty = view-Array c.new.result ∙ ap (λ vs. array (items_view vs)) c.new.ensures.items in
    let read = ap (λ us. option_and_then values_in (after_bracket us)) first ∙ ap (option_map (λ p. items_list p.0)) counted.1 in
    (array counted.0, opened ∙ ap (parse_map array) counted.1, empty, (items_list counted.0, refl, read, counted.2))

pub returns-in-Err-clause-err : goal.returns-in-Err-clause-err
returns-in-Err-clause-err c invalid =
    let ts = c.next.new.self in
    let first : c.args.reader.now ≡ Token.begin_array ∷ ts = grind arith in
    let opened = ap (converted of_json) (ap (value 126) first ∙ value-begin_array 126 ts (omega arith)) ∙ converted-array (items (value 125) (length ts) ts) in
    opened ∙ ap (parse_map array) (c.in-Err.ensures.err (grind arith))

pub returns-in-Ok-read_from : goal.returns-in-Ok-read_from
returns-in-Ok-read_from c =
    let ts = c.next.new.self in
    let t = token_of c.in-Some.token in
    let first : c.args.reader.now ≡ t ∷ ts = grind arith in
    let apart : after_bracket (t ∷ ts) ≡ None = grind arith in
    let d = view c.in-Ok-read_from.value in
    let none = not_array 125 t ts c.read_from.new.reader d apart c.in-Ok-read_from.ensures.ok in
    record {
      ok = (d, ap (λ us. converted of_json (value 126 us)) first ∙ c.in-Ok-read_from.ensures.ok, sym (kept d none), none);
      shorter = omega (arith, ap length first, c.in-Ok-read_from.ensures.shorter);
      err = λ e. absurd cc;
    }

pub returns-in-None-clause-err : goal.returns-in-None-clause-err
returns-in-None-clause-err c invalid =
    let empty : c.args.reader.now ≡ [] = grind arith in
    ap (converted of_json) (ap (value 126) empty ∙ value_is 126 [])
