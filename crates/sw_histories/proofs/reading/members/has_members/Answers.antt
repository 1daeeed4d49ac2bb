use Rattle.serde_json.specs.View.{view}
use Rattle.sw_histories.proofs.Found.RecordReadingLemmas.{members_count}
use Rattle.sw_histories.proofs.reading.members.has_members.Goals as goal

pub returns-in-Some : goal.returns-in-Some
returns-in-Some c = members_count (view c.args.value.now) c.in-Some.members.now.entries c.len.result c.args.count c.in-Some.ensures c.len.ensures.len
