use Rattle.std.proofs.Common.{◌≡◌, ◌≤◌, ◌<◌, ◌∙◌, ap, refl, arith, rules, get_or, length, pos, FitsSigned, w64, to_z, of_z}
use Rattle.std.proofs.lemmas.Int.{to_z-of_z}
use Rattle.std.proofs.lemmas.List.{length-map}
use Rattle.serde_json.specs.Data.{array}
use Rattle.serde_json.specs.View.{items_of}
use Rattle.serde_json.proofs.Views.{view-Array}
use Rattle.sw_rows.specs.Domains.{domain}
use Rattle.sw_rows.specs.Header.{kinds_of, texts_of}
use Rattle.sw_histories.specs.RecordText.{cell_data, cells_data}
use Rattle.sw_histories.proofs.Back.RecordTextLemmas.{cell_more, cells_over}
use Rattle.sw_histories.proofs.writing.row_value.Goals as goal

pub loop-attr-preserved : goal.loop-attr-preserved
loop-attr-preserved c =
    let ks = kinds_of c.args.schema.now in
    let zs = c.args.row.now.cells in
    let i = c.loop-attr.attr in
    let k = domain (texts_of c.args.schema.now) c.kind.result in
    let z = get_or zs i (pos 0) in
    let lt : i < length zs = omega arith in
    let fits : FitsSigned w64 z = search rules in
    let kept : to_z w64 (of_z w64 z) ≡ z = to_z-of_z w64 z fits in
    cell_more ks zs i k z (pos 0) (cells_data ks zs) c.loop-attr.items.items c.push.new.self.items c.in_ok-cell.cell c.kind.ensures.value lt refl c.loop-attr.invariant c.in_ok-push.ensures.items (c.in_ok-cell.ensures ∙ ap (cell_data k) kept)

pub returns : goal.returns
returns c =
    let ks = kinds_of c.args.schema.now in
    let zs = c.args.row.now.cells in
    let past : length ks ≤ c.loop-attr.attr = omega (arith, length-map c.args.schema.now (λ c. c.1), c.len-attr-end.ensures.value, c.loop-attr-test.false) in
    view-Array c.loop-attr.items ∙ ap (λ ds. array (items_of ds)) (cells_over ks zs c.loop-attr.attr (cells_data ks zs) c.loop-attr.items.items past c.loop-attr.invariant)
