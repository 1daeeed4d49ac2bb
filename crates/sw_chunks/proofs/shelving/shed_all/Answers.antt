use Rattle.std.proofs.Common.{◌<◌, ◌≤◌, ◌+◌, length, refl}
use Rattle.sw_chunks.proofs.Shelves.{not-all, shed-done, shed-next}
use Rattle.sw_chunks.proofs.shelving.shed_all.Goals as goal

pub loop-k-preserved : goal.loop-k-preserved
loop-k-preserved g c =
    let lt : c.loop-k.k < length c.args.areas.now = c.loop-k-test.true in
    let few : c.loop-k.gone ≤ c.args.most = c.loop-k.invariant.few in
    let less : c.loop-k.gone < c.args.most = not-all c.loop-k.gone c.args.most few c.if-gone-most.false in
    shed-next c.args.most c.loop-k.k c.args.areas.now c.loop-k.areas c.loop-k.gone c.shed-gone.result (c.loop-k.gone + c.shed-gone.result) c.index-areas-k.result c.shed-gone.new.self lt less c.loop-k.invariant c.shed-gone.ensures.shed c.shed-gone.ensures.all refl

pub returns : goal.returns
returns g c =
    let le : length c.args.areas.now ≤ c.loop-k.k = c.loop-k-test.false in
    shed-done c.args.most c.loop-k.k c.args.areas.now c.loop-k.areas c.loop-k.gone c.loop-k.invariant (λ less. le)
