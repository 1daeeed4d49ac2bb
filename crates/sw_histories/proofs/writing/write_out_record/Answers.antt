use Rattle.std.proofs.Common.{◌∙◌, ap}
use Rattle.sw_spine.specs.History.{History, history}
use Rattle.sw_histories.specs.RecordText.{record_text}
use Rattle.sw_histories.proofs.Back.RecordTextLemmas.{writes_text}
use Rattle.sw_histories.proofs.writing.write_out_record.Goals as goal

pub returns-in-Ok-clause-text : goal.returns-in-Ok-clause-text
returns-in-Ok-clause-text g c =
    let inside = c.spent.inside in
    let taken = c.replace-entries.result in
    let whole = ap (λ (h : History). record_text (record h { entries = taken.items })) c.by_ref.ensures
    ∙ ap (λ v. record_text (history inside.schema inside.rows.items inside.limit v.items)) c.replace-entries.ensures.value
    ∙ ap record_text c.spent.view_is in
    writes_text _ _ _ _ c.write_all.result _ (rw (c.as_slice.ensures.value ∙ c.in-Ok.ensures ∙ whole) at c.write_all.ensures)
