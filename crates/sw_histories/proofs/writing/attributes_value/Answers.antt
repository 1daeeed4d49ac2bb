use Rattle.std.proofs.Common.{◌≤◌, ◌∙◌, ap, map, length, arith}
use Rattle.std.proofs.lemmas.List.{take_all}
use Rattle.serde_json.specs.Data.{array, string}
use Rattle.serde_json.specs.View.{items_of}
use Rattle.serde_json.proofs.Views.{view-Array}
use Rattle.sw_rows.specs.Domains.{domain}
use Rattle.sw_rows.specs.Header.{texts_of}
use Rattle.sw_histories.specs.RecordText.{attribute_text}
use Rattle.sw_histories.proofs.Back.RecordTextLemmas.{one_attribute, view_String}
use Rattle.sw_histories.proofs.writing.attributes_value.Goals as goal

pub loop-attr-preserved : goal.loop-attr-preserved
loop-attr-preserved c = one_attribute c.loop-attr.items.items c.push.new.self.items _ c.args.schema.now c.loop-attr.attr c.name.result.now (domain (texts_of c.args.schema.now) c.kind.result) c.name.ensures c.kind.ensures.value c.loop-attr.invariant c.in_ok-push.ensures.items (view_String c.in_ok-text.text _ (c.in_ok-text.ensures (texts_of c.args.schema.now)))

pub returns : goal.returns
returns c =
    let past : length c.args.schema.now ≤ c.loop-attr.attr = omega (arith, c.len-attr-end.ensures.value, c.loop-attr-test.false) in
    let all = c.loop-attr.invariant ∙ ap (λ cs. map (λ t. string t) (map attribute_text cs)) (take_all c.loop-attr.attr c.args.schema.now past) in
    view-Array c.loop-attr.items ∙ ap (λ ds. array (items_of ds)) all
