use Rattle.std.proofs.Common.{◌≡◌, ◌∙◌, [], ap}
use Rattle.sw_spine.specs.History.{History}
use Rattle.sw_histories.specs.RecordText.{closing_text, front_text}
use Rattle.sw_histories.proofs.Back.RecordTextLemmas.{record_parts}
use Rattle.sw_histories.proofs.writing.record_bytes.Goals as goal

pub returns : goal.returns
returns c =
    let h = c.args.history.now in
    let inside = c.history.inside in
    let front : c.put_front.new.text.items ≡ front_text [] h = c.in_ok-put_front.ensures ∙ ap (λ t. front_text t h) c.new-text.ensures.items in
    c.in_ok-put_closing.ensures
    ∙ ap (λ t. closing_text t inside.schema.now inside.rows.now.items) front
    ∙ ap (λ (o : History). closing_text (front_text [] h) o.columns o.rows) c.history.view_is
    ∙ record_parts h
