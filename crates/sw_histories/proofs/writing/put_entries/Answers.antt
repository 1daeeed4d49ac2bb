use Rattle.std.proofs.Common.{◌≡◌, ◌∙◌, ◌++◌, [], ap, sym, false}
use Rattle.std.specs.Prelude.{map}
use Rattle.serde_json.specs.View.{items_of}
use Rattle.serde_json.specs.Written.{items_text}
use Rattle.sw_histories.specs.RecordText.{entry_data}
use Rattle.sw_histories.proofs.Back.RecordTextLemmas.{list_begun, none_left}
use Rattle.sw_histories.proofs.writing.put_entries.Goals as goal

pub loop-entry-init : goal.loop-entry-init
loop-entry-init c =
    let all = items_text false (items_of (map (entry_data c.args.schema.now) c.args.entries.now)) in
    list_begun c.args.text.now.items all ∙ ap (λ t. t ++ all) (sym c.in_ok-push.ensures.items)

pub returns : goal.returns
returns c =
    let l = c.loop-entry in
    let over : l.rest.now ≡ [] = none_left l.rest.now c.in_default.ensures.cases in
    c.in_ok-push-2.ensures.items ∙ sym (l.invariant ∙ ap (λ r. l.text.items ++ items_text l.is_later (items_of (map (entry_data c.args.schema.now) r))) over)
