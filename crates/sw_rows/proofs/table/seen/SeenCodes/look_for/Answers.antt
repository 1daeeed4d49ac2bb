use Rattle.std.proofs.Common.{[], get_or, subst}
use Rattle.sw_rows.specs.Groups.{IsCodeOrZero}
use Rattle.sw_rows.proofs.Tables.SeenLemmas.{seen_set}
use Rattle.sw_rows.proofs.table.seen.SeenCodes.look_for.Goals as goal

pub loop-place-preserved : goal.loop-place-preserved
loop-place-preserved c =
    let ts = c.args.texts.now in
    let code = subst (λ fields. IsCodeOrZero ts (get_or fields c.args.attr []) c.seen_in.result) c.record.ensures c.seen_in.ensures in
    seen_set ts c.args.group.now c.loop-place.self.codes c.loop-place.place c.args.attr c.seen_in.result c.loop-place.invariant code
