use Rattle.sw_spine.proofs.ApartLemmas.{lines_all, lines_later}
use Rattle.sw_spine.proofs.apart.part_at.Goals as goal

pub loop-place-preserved : goal.loop-place-preserved
loop-place-preserved c = lines_later c.args.given.now c.args.listed.now c.loop-place.place c.loop-place-test.true c.loop-place.invariant (c.is_same_at.ensures.0 c.if-not-is_same_at.false)

pub returns : goal.returns
returns c = lines_all c.args.given.now c.args.listed.now c.loop-place.place c.loop-place.auto.place-end c.loop-place-test.false c.loop-place.invariant
