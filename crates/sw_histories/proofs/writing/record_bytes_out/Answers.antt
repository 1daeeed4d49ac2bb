use Rattle.std.proofs.Common.{◌∙◌, ◌++◌, ap, false, map}
use Rattle.sw_spine.specs.History.{History}
use Rattle.sw_histories.specs.RecordText.{before_text, behind_text, entry_data, format_of, items_then}
use Rattle.sw_histories.proofs.Back.TextFromEnd.{record_from_end}
use Rattle.sw_histories.proofs.writing.record_bytes_out.Goals as goal

pub returns : goal.returns
returns c =
    let h = c.args.history.now in
    let es = c.args.entries.items in
    let columns = c.history.inside.schema.now in
    let format = c.format_of-format.ensures ∙ ap (format_of columns) c.as_slice.ensures.value in
    let behind = c.in_ok-text.ensures ∙ ap (λ f. behind_text f h) format in
    let items = c.in_ok-put_entries_before.ensures ∙ ap (items_then false (map (entry_data columns) es)) behind in
    c.into_bytes.ensures
    ∙ c.in_ok-put_before.ensures
    ∙ ap (λ t. t ++ c.put_entries_before.new.text) c.in_ok-before.ensures
    ∙ ap (λ t. before_text columns ++ t) items
    ∙ ap (λ (o : History). before_text o.columns ++ items_then false (map (entry_data o.columns) es) (behind_text (format_of o.columns es) h)) c.history.view_is
    ∙ record_from_end (record h { entries = es })
