use Rattle.std.proofs.Common.{List, subst, sym}
use Rattle.sw_query.specs.Scan.{CondsBelow}
use Rattle.sw_query.specs.declared.query.Call.{Call}
use Rattle.sw_query.specs.declared.query.Cond.{Cond}
use Rattle.sw_lang.specs.Fits.{FitsCall}
use Rattle.cases_rows.proofs.Asks.{conds_ask}
use Rattle.cases_rows.proofs.replies.deleted.Goals as goal

pub matching_keys-requires : goal.matching_keys-requires
matching_keys-requires c =
    let conds = c.in-DeleteWhere.conds in
    let fits = subst (λ (call : Call). FitsCall c.args.schema.now call) c.in-DeleteWhere.is c.requires in
    subst (λ (cs : List Cond). CondsBelow 8 cs) (sym c.as_slice.ensures) (conds_ask c.args.schema.now conds c.len.ensures.schema fits)
