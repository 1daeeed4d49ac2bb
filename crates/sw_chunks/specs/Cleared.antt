-- Areas after maps were cleared.
use Rattle.std.specs.Prelude.{◌≡◌, ◌≢◌, ◌≤◌, ◌<◌, ◌+◌, ◌⊎◌, ℕ, List, true, false, get_or, length, min, sum_by, All, Any}
use Rattle.sw_map.specs.Held.{Held}
use Rattle.sw_set.specs.Figures.{cells_among}
use Rattle.sw_set.specs.Shelf.{AreaState}
use Rattle.sw_set.specs.Prepared.{IsSameButBoxes}

-- what holds of each area and of that at its place in the other list
abbrev pub HoldsOfEach : (AreaState → AreaState → Type 0) → List AreaState → List AreaState → Type 0
HoldsOfEach P xs ys = (k : ℕ) (d e : AreaState) → k < length xs → P (get_or xs k d) (get_or ys k e)

-- place by place, in lists that are as long as each other
abbrev pub AreEach : (AreaState → AreaState → Type 0) → List AreaState → List AreaState → Type 0
AreEach P xs ys = (length ys ≡ length xs) × HoldsOfEach P xs ys

-- the cells of the leases that areas hold
abbrev pub cells_in : List AreaState → ℕ
cells_in xs = sum_by (λ (x : AreaState). cells_among x.boxes) xs

abbrev pub HasMap : AreaState → Type 0
HasMap x = Any (λ (m : Held). m.is_blank ≡ false) x.boxes

abbrev pub IsAllBlank : AreaState → Type 0
IsAllBlank x = All (λ (m : Held). m.is_blank ≡ true) x.boxes

-- no area has a map, but perhaps the one at a place
abbrev pub AreBlankBut : ℕ → List AreaState → Type 0
AreBlankBut but xs = (k : ℕ) (d : AreaState) → k < length xs → k ≢ but → IsAllBlank (get_or xs k d)

-- the area at a place, which is not the one, has a map
abbrev pub IsMappedBut : ℕ → List AreaState → ℕ → Type 0
IsMappedBut but xs k = (k < length xs) × (k ≢ but) × ((d : AreaState) → HasMap (get_or xs k d))

-- The areas after maps were cleared in all but the one at a place, until so many cells came back or none was left: what
-- came back is told, up to the greatest number of the type.
pub record AreClearedBut (but cells : ℕ) (xs ys : List AreaState) (came : ℕ) : Type 0 where
  pub same : AreEach IsSameButBoxes xs ys
  pub kept : (d e : AreaState) → but < length xs → get_or ys but e ≡ get_or xs but d
  pub freed : ℕ
  pub told : came ≡ min freed 18446744073709551615
  pub cells_are : cells_in ys + freed ≡ cells_in xs
  pub enough : (cells ≤ came) ⊎ AreBlankBut but ys
  pub none : cells ≡ 0 → ys ≡ xs
