-- The boxes of areas.
use Rattle.std.specs.Prelude.{◌≡◌, ◌≤◌, ◌<◌, ◌+◌, ◌++◌, ℕ, List, get_or, length, sum_by, IsPermutation}
use Rattle.sw_map.specs.Held.{Held}
use Rattle.sw_set.specs.Shelf.{AreaState}

-- the area at a place has the fewest boxes, and of several it is the lowest
pub record IsFewest (at : ℕ) (xs : List AreaState) : Type 0 where
  pub within : at < length xs
  pub fewest : (k : ℕ) (d e : AreaState) → k < length xs → length (get_or xs at d).boxes ≤ length (get_or xs k e).boxes
  pub lowest : (k : ℕ) (d e : AreaState) → k < at → length (get_or xs at d).boxes < length (get_or xs k e).boxes

-- the area but for its boxes, and how many it has
pub record IsSameButShelf (x y : AreaState) : Type 0 where
  pub attribute : y.attribute ≡ x.attribute
  pub from : y.from ≡ x.from
  pub below : y.below ≡ x.below
  pub inbox : y.inbox ≡ x.inbox
  pub spare : y.spare ≡ x.spare
  pub tape : y.tape ≡ x.tape

-- how many boxes areas have
abbrev pub boxes_in : List AreaState → ℕ
boxes_in xs = sum_by (λ (x : AreaState). length x.boxes) xs

-- the boxes that an area had are those that went and those that are left
abbrev pub HasParted : AreaState → AreaState → Type 0
HasParted x y = (went : List Held) × IsPermutation x.boxes (went ++ y.boxes)

abbrev pub HasBox : AreaState → Type 0
HasBox x = 0 < length x.boxes

-- Boxes were dropped, those of the lowest areas first: at most so many, and all where there are no more. Each area's
-- are those that it had, but for what went.
pub record AreShed (most : ℕ) (xs ys : List AreaState) (gone : ℕ) : Type 0 where
  pub many : length ys ≡ length xs
  pub same : (k : ℕ) (d e : AreaState) → k < length xs → IsSameButShelf (get_or xs k d) (get_or ys k e)
  pub parted : (k : ℕ) (d e : AreaState) → k < length xs → HasParted (get_or xs k d) (get_or ys k e)
  pub boxes : boxes_in ys + gone ≡ boxes_in xs
  pub few : gone ≤ most
  pub all : gone < most → boxes_in ys ≡ 0
  pub lowest : (j k : ℕ) (d e : AreaState) → j < k → k < length xs
      → HasBox (get_or ys j d) → get_or ys k e ≡ get_or xs k e
