use Rattle.sw_chunks.proofs.Sums.{pieces_more}
use Rattle.sw_chunks.proofs.figures.pieces_in.Goals as goal

pub loop-area-preserved : goal.loop-area-preserved
loop-area-preserved g c =
    pieces_more c.args.areas.now c.loop-area.area-index c.area-item.result c.loop-area.pieces c.pieces.result c.added-pieces.result c.loop-area-test.true c.area-item.is c.loop-area.invariant c.pieces.ensures c.added-pieces.ensures
