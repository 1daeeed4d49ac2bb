use Rattle.std.proofs.Common.{◌∙◌, ◌+◌, ℕ, ap}
use Rattle.sw_set.specs.Figures.{capped, maps_among}
use Rattle.sw_set.specs.Shelf.{AreaState}
use Rattle.sw_set.proofs.Areas.Sums.{capped_more}
use Rattle.sw_chunks.proofs.figures.maps_in.Goals as goal

pub loop-area-preserved : goal.loop-area-preserved
loop-area-preserved g c =
    capped_more (λ (x : AreaState). capped (maps_among x.boxes)) c.args.areas.now c.loop-area.area-index c.area-item.result c.loop-area.maps c.added-maps.result c.loop-area-test.true c.area-item.is c.loop-area.invariant (c.added-maps.ensures ∙ ap (λ (n : ℕ). capped (c.loop-area.maps + n)) c.maps.ensures)
