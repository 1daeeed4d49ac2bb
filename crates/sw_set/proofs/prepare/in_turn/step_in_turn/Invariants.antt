use Rattle.std.proofs.Common.{◌≡◌, ◌-◌, length, All}
use Rattle.sw_map.specs.Lawful.{IsLawful}
use Rattle.sw_set.specs.Aligned.{KeepMaps}
use Rattle.sw_set.proofs.prepare.in_turn.step_in_turn.Given as goal

-- the boxes are lawful, and the same maps as they were
abbrev pub invariant-boxes : goal.invariant-boxes
invariant-boxes g l =
    (length l.boxes ≡ length l.fn.boxes)
    × All (λ m. IsLawful l.course.attribute l.course.tape.now (g.M.CrackerMap.held m)) l.boxes
    × KeepMaps g.M.CrackerMap.held l.fn.boxes l.boxes

abbrev pub decreases-boxes : goal.decreases-boxes
decreases-boxes g l = length l.boxes - l.from
