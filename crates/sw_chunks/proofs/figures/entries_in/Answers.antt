use Rattle.std.proofs.Common.{◌∙◌, ◌+◌, ℕ, ap, length}
use Rattle.sw_set.specs.Figures.{capped}
use Rattle.sw_set.specs.Shelf.{AreaState}
use Rattle.sw_set.proofs.Areas.Sums.{capped_more}
use Rattle.sw_chunks.proofs.figures.entries_in.Goals as goal

pub loop-area-preserved : goal.loop-area-preserved
loop-area-preserved g c =
    capped_more (λ (x : AreaState). length x.tape) c.args.areas.now c.loop-area.area-index c.area-item.result c.loop-area.entries c.added-entries.result c.loop-area-test.true c.area-item.is c.loop-area.invariant (c.added-entries.ensures ∙ ap (λ (n : ℕ). capped (c.loop-area.entries + n)) c.tape_len.ensures.many)
