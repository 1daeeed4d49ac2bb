use Rattle.std.proofs.Common.{rules, ◌≡◌, Some, get_or}
use Rattle.sw_chunks.proofs.Rested.{rested-next}
use Rattle.sw_chunks.proofs.resting.answer_resting.Goals as goal

pub loop-k-preserved : goal.loop-k-preserved
loop-k-preserved g c =
    let here : get_or c.args.areas.now c.loop-k.k c.index-areas-k.result ≡ c.index-areas-k.result = search rules in
    let told : c.in_ok-both.field-0 ≡ Some c.in-Some.both = search rules in
    rested-next c.args.query.now c.loop-k.k c.args.areas.now c.loop-k.reply c.in-Some.both _ _ _ c.loop-k-test.true here told c.in_ok-both.ensures.answered c.in_ok-both.ensures.rests c.loop-k.invariant.0 c.loop-k.invariant.1 c.loop-k.invariant.2
