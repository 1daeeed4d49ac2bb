use Rattle.std.proofs.Common.{◌∙◌, ap, sym}
use Rattle.std.specs.Prelude.{option_map}
use Rattle.serde_json.specs.View.{view}
use Rattle.sw_spine.specs.declared.history.State.TheVariants as state
use Rattle.sw_histories.proofs.Found.RecordReadingLemmas.{state_lines}
use Rattle.sw_histories.proofs.reading.entries.read_state.Goals as goal

pub returns-in-Some-2 : goal.returns-in-Some-2
returns-in-Some-2 c = ap (option_map (λ ls. state.Lines ls)) (sym c.in-Some-2.is) ∙ state_lines c.args.call.now (view c.args.value.now) (view c.in-Some.reply.now) c.in-Some-as_array.items.now.items c.as_slice.result.now c.in_ok-lines.field-0 c.in-Some.ensures c.in-Some-as_array.ensures c.as_slice.ensures.value c.in_ok-lines.ensures

pub returns-in-None : goal.returns-in-None
returns-in-None c = ap (option_map (λ ls. state.Lines ls)) (sym c.in-None.is) ∙ state_lines c.args.call.now (view c.args.value.now) (view c.in-Some.reply.now) c.in-Some-as_array.items.now.items c.as_slice.result.now c.in_ok-lines.field-0 c.in-Some.ensures c.in-Some-as_array.ensures c.as_slice.ensures.value c.in_ok-lines.ensures
