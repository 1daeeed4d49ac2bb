use Rattle.std.proofs.Common.{subst}
use Rattle.sw_query.specs.declared.query.Call.{Call}
use Rattle.sw_lang.specs.Fits.{FitsCall}
use Rattle.cases_rows.proofs.Asks.{query_asks}
use Rattle.cases_rows.proofs.replies.answered.Goals as goal

pub answer-requires : goal.answer-requires
answer-requires c = query_asks c.args.schema.now c.in-Select.query c.len.ensures.schema (subst (λ (call : Call). FitsCall c.args.schema.now call) c.in-Select.is c.requires)
