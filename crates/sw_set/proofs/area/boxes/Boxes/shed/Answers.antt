use Rattle.sw_set.proofs.Areas.Dropped.{dropped-more, dropped-none}
use Rattle.sw_set.proofs.area.boxes.Boxes.shed.Goals as goal

pub loop-gone-init : goal.loop-gone-init
loop-gone-init g c = dropped-none _ _

pub loop-gone-preserved : goal.loop-gone-preserved
loop-gone-preserved g c = dropped-more _ _ _ _ _ c.in-Some.at c.loop-gone-test.true c.in-Some.ensures c.drop_at.ensures c.loop-gone.invariant
