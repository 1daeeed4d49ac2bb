use Rattle.std.proofs.Common.{◌≡◌, ◌∙◌, ap}
use Rattle.serde_json.specs.View.{view}
use Rattle.sw_lang.specs.Learning.{knowing}
use Rattle.sw_rows.specs.Header.{kinds_of}
use Rattle.sw_histories.specs.RecordReading.{row_in, row_learned}
use Rattle.sw_histories.proofs.Found.LearnedTexts.{no_row_learned, row_texts_found}
use Rattle.sw_histories.proofs.Found.RecordReadingLemmas.{row_found}
use Rattle.sw_histories.proofs.reading.rows.read_row.Goals as goal

pub returns-in_default-clause-learned : goal.returns-in_default-clause-learned
returns-in_default-clause-learned c = no_row_learned c.args.schema.now (view c.args.value.now) c.len-count.ensures.schema c.in_default.ensures

pub returns-clause-learned : goal.returns-clause-learned
returns-clause-learned c =
    let s = c.args.schema.now in
    c.in_ok-learn_cells.ensures ∙ ap (λ more. knowing more s) (row_texts_found (view c.args.value.now) c.in-Some.items.now.items c.as_slice.result.now c.in-Some.ensures c.as_slice.ensures.value)

pub returns-clause-cells : goal.returns-clause-cells
returns-clause-cells c =
    let s = c.args.schema.now in
    let next = c.learn_cells.new.schema in
    let d = view c.args.value.now in
    let known : next ≡ row_learned s d = c.in_ok-learn_cells.ensures ∙ ap (λ more. knowing more s) (row_texts_found d c.in-Some.items.now.items c.as_slice.result.now c.in-Some.ensures c.as_slice.ensures.value) in
    row_found (kinds_of next) d c.in-Some.items.now.items c.as_slice-2.result.now c.read_cells.result c.in-Some.ensures c.as_slice-2.ensures.value c.read_cells.ensures
    ∙ ap (λ cs. row_in (kinds_of cs) d) known
