use Rattle.std.proofs.Common.{arith, get_or}
use Rattle.sw_map.specs.Held.{blank}
use Rattle.sw_set.proofs.Areas.Boxes.{get_or_any}
use Rattle.sw_set.proofs.Preparing.Trying.{held-kept, fresh-but-own, fresh-but-none, either-ends}
use Rattle.sw_set.proofs.prepare.making.ensure_map.Goals as goal

pub widen-requires-clause-fresh : goal.widen-requires-clause-fresh
widen-requires-clause-fresh g c κs within = fresh-but-own _ _ _ c.known.ensures.apart c.in-Some.ensures.0 c.in-Some.ensures.1

pub begin_again-requires-clause-fresh : goal.begin_again-requires-clause-fresh
begin_again-requires-clause-fresh g c κs within = fresh-but-none _ _ _ c.in_default.ensures

pub returns-then-cells_at-cells-clause-ends : goal.returns-then-cells_at-cells-clause-ends
returns-then-cells_at-cells-clause-ends g c =
    let ms = c.args.area.now.boxes in
    let m = get_or ms c.in-Some.at blank in
    let own = c.in-Some.ensures.1 blank in
    let n = c.cells_at.ensures blank in
    ((c.in-Some.at, m, c.in-Some.ensures.0, get_or_any ms c.in-Some.at m blank c.in-Some.ensures.0, record { begun = own.0; tail = own.1; cells = omega arith }), λ u need h. h)

pub returns-in-Some-clause-ends : goal.returns-in-Some-clause-ends
returns-in-Some-clause-ends g c =
    either-ends _ _ _ _ _ _ _ c.widen.ensures.ends (λ now u need h. held-kept c.in-Some.at _ _ _ _ _ c.widen.ensures.same.many c.widen.ensures.kept now (λ d b n. (c.in-Some.ensures.1 d).1) u need h)

pub returns-clause-ends : goal.returns-clause-ends
returns-clause-ends g c =
    either-ends _ _ _ _ _ _ _ c.begin_again.ensures.ends (λ now u need h. held-kept c.in_ok-at.at _ _ _ _ _ c.begin_again.ensures.same.many c.begin_again.ensures.kept now (λ d b n. absurd (c.in_ok-at.ensures.1 d b n)) u need h)
