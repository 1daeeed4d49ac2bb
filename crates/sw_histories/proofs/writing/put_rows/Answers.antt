use Rattle.std.proofs.Common.{◌≡◌, ◌<◌, ◌+◌, ◌∙◌, ◌∷◌, ◌++◌, [], ap, sym, false, true, arith, drop, length, List, ℕ}
use Rattle.std.proofs.lemmas.List.{drop_more}
use Rattle.std.proofs.Math.ListN.{drop_of_length-le}
use Rattle.std.specs.Prelude.{map}
use Rattle.serde_json.specs.View.{items_of}
use Rattle.serde_json.specs.Written.{comma_if, compact_text, items_text}
use Rattle.sw_table.specs.declared.row.Row.{Row}
use Rattle.sw_rows.specs.Header.{kinds_of}
use Rattle.sw_histories.specs.RecordText.{row_data}
use Rattle.sw_histories.proofs.Back.RecordTextLemmas.{item_put, list_begun}
use Rattle.sw_histories.proofs.writing.put_rows.Goals as goal

pub loop-place-init : goal.loop-place-init
loop-place-init c =
    let all = items_text false (items_of (map (row_data (kinds_of c.args.schema.now)) c.args.rows.now.items)) in
    list_begun c.args.text.now.items all ∙ ap (λ t. t ++ all) (sym c.in_ok-push.ensures.items)

pub loop-place-preserved : goal.loop-place-preserved
loop-place-preserved c =
    let none : Row = record { key = 0; cells = [] } in
    let l = c.loop-place in let xs = c.args.rows.now.items in let i = l.place in
    let lt : i < length xs = omega (arith, c.loop-place-test.true, c.len-place-end.ensures.many) in
    let text : List Row → List ℕ = λ rs. l.text.items ++ items_text l.is_later (items_of (map (row_data (kinds_of c.args.schema.now)) rs)) in
    let split : drop i xs ≡ c.get.result ∷ drop (i + 1) xs = drop_more xs i none lt ∙ ap (λ (r : Row). r ∷ drop (i + 1) xs) (sym (c.get.ensures none)) in
    l.invariant ∙ ap text split
    ∙ item_put l.text.items c.put_row.new.text.items (comma_if l.is_later) (compact_text (row_data (kinds_of c.args.schema.now) c.get.result)) (items_text true (items_of (map (row_data (kinds_of c.args.schema.now)) (drop (i + 1) xs)))) c.in_ok-put_row.ensures

pub returns : goal.returns
returns c =
    let l = c.loop-place in let xs = c.args.rows.now.items in
    let over : drop l.place xs ≡ [] = drop_of_length-le xs (omega (arith, c.len-place-end.ensures.many)) in
    c.in_ok-push-2.ensures.items ∙ sym (l.invariant ∙ ap (λ r. l.text.items ++ items_text l.is_later (items_of (map (row_data (kinds_of c.args.schema.now)) r))) over)
