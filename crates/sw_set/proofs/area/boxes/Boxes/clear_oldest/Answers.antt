use Rattle.std.proofs.Common.{arith, ap}
use Rattle.sw_map.specs.Held.{Held, blank}
use Rattle.sw_set.proofs.area.boxes.Boxes.clear_oldest.Goals as goal

pub returns-clause-none : goal.returns-clause-none
returns-clause-none g c = λ none.
    let lease = c.requires.leases c.in-Some.at blank c.in-Some.ensures.0 (c.in-Some.ensures.1 blank).0 in
    let cells = c.cells-cells.ensures in
    let own = ap (λ (m : Held). m.cells) (c.at.ensures blank) in
    absurd (omega (arith, lease, cells, own, none))
