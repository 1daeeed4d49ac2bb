use Rattle.std.proofs.Common.{◌∙◌, ◌+◌, ℕ, ap}
use Rattle.sw_map.specs.Held.{Held}
use Rattle.sw_set.specs.Figures.{capped}
use Rattle.sw_set.proofs.Areas.Sums.{capped_more_of}
use Rattle.sw_set.proofs.area.figures.cells_among.Goals as goal

pub loop-it-preserved : goal.loop-it-preserved
loop-it-preserved g c =
    capped_more_of g.M.CrackerMap.held (λ (m : Held). m.cells) c.args.boxes.now c.loop-it.it-index c.it-item.result c.loop-it.cells c.added-cells.result c.loop-it-test.true c.it-item.is c.loop-it.invariant (c.added-cells.ensures ∙ ap (λ (n : ℕ). capped (c.loop-it.cells + n)) c.cells.ensures)
