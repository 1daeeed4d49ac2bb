use Rattle.std.proofs.Common.{subst}
use Rattle.sw_set.specs.Prepared.{IsOneCleared, IsSameButBoxes}
use Rattle.sw_set.specs.Shelf.{AreaState}
use Rattle.sw_chunks.proofs.Asking.{get-any}
use Rattle.sw_chunks.proofs.Clears.{clear-next}
use Rattle.sw_chunks.proofs.clearing.clear_but.Goals as goal

pub loop-came-smaller : goal.loop-came-smaller
loop-came-smaller g c =
    let found = c.in-Some.ensures in let area = c.index-areas-k.result in
    (clear-next c.args.but c.args.cells c.in-Some.k c.args.areas.now c.loop-came.areas c.clear_oldest.new.self c.loop-came.came c.clear_oldest.result c.added-came.result c.loop-came-test.true found.0 found.1 found.2
    (λ d. subst (λ (t : AreaState). IsSameButBoxes t c.clear_oldest.new.self) (get-any c.loop-came.areas c.in-Some.k area d found.0) c.clear_oldest.ensures.same)
    (λ d. subst (λ (t : AreaState). IsOneCleared t.boxes c.clear_oldest.new.self.boxes c.clear_oldest.result) (get-any c.loop-came.areas c.in-Some.k area d found.0) c.clear_oldest.ensures.cleared)
    c.added-came.ensures c.loop-came.invariant).1

pub loop-came-preserved : goal.loop-came-preserved
loop-came-preserved g c =
    let found = c.in-Some.ensures in let area = c.index-areas-k.result in
    (clear-next c.args.but c.args.cells c.in-Some.k c.args.areas.now c.loop-came.areas c.clear_oldest.new.self c.loop-came.came c.clear_oldest.result c.added-came.result c.loop-came-test.true found.0 found.1 found.2
    (λ d. subst (λ (t : AreaState). IsSameButBoxes t c.clear_oldest.new.self) (get-any c.loop-came.areas c.in-Some.k area d found.0) c.clear_oldest.ensures.same)
    (λ d. subst (λ (t : AreaState). IsOneCleared t.boxes c.clear_oldest.new.self.boxes c.clear_oldest.result) (get-any c.loop-came.areas c.in-Some.k area d found.0) c.clear_oldest.ensures.cleared)
    c.added-came.ensures c.loop-came.invariant).0
