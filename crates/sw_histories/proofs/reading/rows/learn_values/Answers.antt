use Rattle.std.proofs.Common.{[], subst, List}
use Rattle.std.specs.List.{cons_option}
use Rattle.std.specs.Prelude.{filter_map, map}
use Rattle.serde_json.specs.View.{view}
use Rattle.serde_json.specs.declared.value.Value.{Value}
use Rattle.sw_lang.proofs.Known.Knowing.{Learning, begin, some_now, step}
use Rattle.sw_histories.specs.RecordReading.{text_in}
use Rattle.sw_histories.proofs.Found.LearnedTexts.{one_more}
use Rattle.sw_histories.proofs.reading.rows.learn_values.Goals as goal

pub loop-value-init : goal.loop-value-init
loop-value-init c = begin c.args.schema.now (filter_map text_in (map view c.args.items.now)) c.len-count.ensures.schema

pub learn_value-requires : goal.learn_value-requires
learn_value-requires c = some_now c.args.schema.now c.loop-value.schema (filter_map text_in (map view c.args.items.now)) (filter_map text_in (map view c.loop-value.rest.now)) c.requires c.loop-value.invariant

pub loop-value-preserved : goal.loop-value-preserved
loop-value-preserved c =
    let before = c.args.schema.now in
    let now = c.loop-value.schema in
    let all = filter_map text_in (map view c.args.items.now) in
    let one = text_in (view c.in-Some.value.now) in
    let left = filter_map text_in (map view c.in-Some.later.now) in
    let here = subst (λ (vs : List Value). Learning before now all (filter_map text_in (map view vs))) c.in-Some.ensures.cases.0 c.loop-value.invariant in
    step before now c.learn_value.new.schema all (cons_option one []) left c.requires (subst (Learning before now all) (one_more one left) here) c.in_ok-learn_value.ensures
