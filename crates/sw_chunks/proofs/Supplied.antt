-- A head with one blank box more.
use Rattle.std.proofs.Common.{◌≡◌, ◌+◌, ◌++◌, ◌∷◌, [], List, length, length-append, get_or, ap, arith, None}
use Rattle.std.specs.Prelude.{slice_set}
use Rattle.sw_map.specs.Held.{Held, blank}
use Rattle.sw_set.specs.Shelf.{AreaState}
use Rattle.sw_chunks.specs.Heads.{HeadState, IsSupplied}
use Rattle.sw_chunks.specs.Shelved.{boxes_in}
use Rattle.sw_chunks.proofs.Clears.{sum-set}

any_area : AreaState
any_area = record { attribute = 0; from = None; below = None; inbox = []; spare = 0; tape = []; boxes = [] }

-- a head with one box more stands for the same updates
pub supplied_updates : (g h : HeadState) → IsSupplied g h → h.updates ≡ g.updates
supplied_updates g h s = ap (λ (x : HeadState). x.updates) (s.supplied any_area)

-- a head with one box more has the same attribute
pub supplied_attribute : (g h : HeadState) → IsSupplied g h → h.attribute ≡ g.attribute
supplied_attribute g h s = ap (λ (x : HeadState). x.attribute) (s.supplied any_area)

-- a head that was supplied has one box more
pub supplied_boxes : (g h : HeadState) → IsSupplied g h → boxes_in h.areas ≡ boxes_in g.areas + 1
supplied_boxes g h s =
    let was : List Held = (get_or g.areas s.at any_area).boxes in
    let now : AreaState = record (get_or g.areas s.at any_area) { boxes = was ++ blank ∷ [] } in
    let whole : boxes_in (slice_set g.areas s.at now) + length was ≡ boxes_in g.areas + length (was ++ blank ∷ []) = sum-set (λ (x : AreaState). length x.boxes) g.areas s.at now any_area s.fewest.within in
    let more : length (was ++ blank ∷ []) ≡ length was + 1 = length-append was (blank ∷ []) in
    let is : boxes_in h.areas ≡ boxes_in (slice_set g.areas s.at now) = ap (λ (x : HeadState). boxes_in x.areas) (s.supplied any_area) in
    omega (arith, whole, more, is)
