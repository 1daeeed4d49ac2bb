use Rattle.serde_json.specs.View.{view}
use Rattle.sw_histories.proofs.Found.RecordReadingLemmas.{array_found}
use Rattle.sw_histories.proofs.reading.members.array_at.Goals as goal

pub returns-in-Some : goal.returns-in-Some
returns-in-Some c = array_found c.args.name.now (view c.args.value.now) (view c.in_ok-get.field-0.now) c.in-Some.items.now.items c.as_slice.result.now c.in_ok-get.ensures c.in-Some.ensures c.as_slice.ensures.value
