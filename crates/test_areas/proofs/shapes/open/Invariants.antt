use Rattle.std.proofs.Common.{◌≡◌, ◌+◌, All, replicate, vec_len}
use Rattle.sw_map.specs.Held.{blank}
use Rattle.test_areas.specs.Opening.{opened}
use Rattle.test_areas.proofs.shapes.open.Given as goal

-- so many blank boxes were taken
abbrev pub invariant-loop-turn : goal.invariant-loop-turn
invariant-loop-turn g l =
    (l.area ≡ record (opened l.fn.shape.attribute l.fn.shape.from l.fn.shape.below l.fn.shape.boxes l.rows 0) { boxes = replicate l._turn blank }) ×
    (vec_len l.maps + l._turn ≡ vec_len l.initial.maps) ×
    All (λ m. g.M.CrackerMap.held m ≡ blank) l.maps.items
