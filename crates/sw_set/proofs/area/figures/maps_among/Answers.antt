use Rattle.std.proofs.Common.{◌∙◌, ◌+◌, ℕ, ap}
use Rattle.sw_set.specs.Figures.{capped, map_count}
use Rattle.sw_set.proofs.Areas.Sums.{capped_more_of}
use Rattle.sw_set.proofs.area.figures.maps_among.Goals as goal

pub loop-it-preserved : goal.loop-it-preserved
loop-it-preserved g c =
    capped_more_of g.M.CrackerMap.held map_count c.args.boxes.now c.loop-it.it-index c.it-item.result c.loop-it.maps c.added-maps.result c.loop-it-test.true c.it-item.is c.loop-it.invariant (c.added-maps.ensures ∙ ap (λ (n : ℕ). capped (c.loop-it.maps + n)) c.map_count.ensures)
