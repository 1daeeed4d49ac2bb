-- What becomes of an area's boxes: which may be taken, and which are made, grown, cleared or dropped.
use Rattle.std.specs.Prelude.{◌≡◌, ◌≢◌, ◌≤◌, ◌<◌, ◌+◌, ◌⊎◌, ℕ, Bool, false, List, [], ◌∷◌, ◌++◌, length, slice_index_or, slice_set, Result, MatchResult, Option, Some, None, All, Any, Contains, IsPermutation}
use Rattle.sw_query.specs.declared.bound.Bound.{Bound}
use Rattle.sw_query.specs.declared.refusal.Refusal.{Refusal}
use Rattle.sw_query.specs.declared.refusal.Refusal.TheVariants.{NoMemory}
use Rattle.sw_map.specs.declared.tail.Tail.{Tail}
use Rattle.sw_map.specs.Held.{Held, blank, place_of}
use Rattle.sw_map.specs.Refusals.{HasGrownOr}
use Rattle.sw_set.specs.Shelf.{AreApart, AreaState, with_box}
use Rattle.sw_set.specs.Sought.{AreAllBlank, LacksMap}

-- the area but for its boxes
pub record IsSameButBoxes (x y : AreaState) : Type 0 where
  pub attribute : y.attribute ≡ x.attribute
  pub from : y.from ≡ x.from
  pub below : y.below ≡ x.below
  pub inbox : y.inbox ≡ x.inbox
  pub spare : y.spare ≡ x.spare
  pub tape : y.tape ≡ x.tape
  pub many : length y.boxes ≡ length x.boxes

-- the box at a place has it, whatever is read where there is none
abbrev pub HasAt : List Held → ℕ → (Held → Type 0) → Type 0
HasAt ms at P = (d : Held) → P (slice_index_or ms at d)

-- the boxes with another map in the box at a place, of which P holds
abbrev pub IsSetAt : List Held → ℕ → (Held → Type 0) → List Held → Type 0
IsSetAt ms at P ns = (m : Held) × P m × (ns ≡ slice_set ms at m)

-- a blank box came behind the others; or there was no memory, nothing has changed, and that box comes back
abbrev pub AreMoreOr : {A M : Type 0} → Result A (M × Refusal) → M → List Held → List Held → Type 0
AreMoreOr r it ms ns =
    MatchResult r (λ _. ns ≡ ms ++ blank ∷ []) (λ back. (ns ≡ ms) × (back.0 ≡ it) × (back.1 ≡ NoMemory))

-- the area after the map in the box at a place was to grow to so many cells
abbrev pub HasGrownAt : Result Bool Refusal → ℕ → ℕ → AreaState → AreaState → Type 0
HasGrownAt r at cells x y = (m : Held) × HasGrownOr r cells (slice_index_or x.boxes at blank) m × (y ≡ with_box at m x)

-- the box may be taken for a map that the tails lack
abbrev pub IsFree : List Tail → Held → Type 0
IsFree tails m = m.is_blank ≡ false → ¬ Contains tails m.tail

-- no box but the one at a place has a map of the tail
unfoldable pub IsFreshBut : ℕ → Tail → List Held → Type 0
IsFreshBut at t ms = (k : ℕ) (d : Held) → k < length ms → k ≢ at → LacksMap t (slice_index_or ms k d)

-- the boxes that have needed maps, but for one place, are as they were
unfoldable pub AreNeededKept : ℕ → List Tail → List Held → List Held → Type 0
AreNeededKept at tails ms ns =
    (k : ℕ) (d : Held) → k < length ms → k ≢ at → Contains tails (slice_index_or ms k d).tail →
    slice_index_or ns k d ≡ slice_index_or ms k d

-- a map of this tail with room for n pairs
pub record IsMapOf (t : Tail) (n : ℕ) (m : Held) : Type 0 where
  pub begun : m.is_blank ≡ false
  pub tail : m.tail ≡ t
  pub cells : n ≤ m.cells

-- there is one among the boxes
abbrev pub IsHeld : Tail → ℕ → List Held → Type 0
IsHeld t n ms = Any (IsMapOf t n) ms

-- of one of these tails no map has so many cells
abbrev pub LacksOne : List Tail → ℕ → List Held → Type 0
LacksOne tails n ms = (t : Tail) × Contains tails t × ¬ IsHeld t n ms

-- where a range's bound stands in a map; an absent one stands at a given place
abbrev pub IsFoundAt : Option Bound → ℕ → Held → ℕ → Type 0
IsFoundAt None absent m place = place ≡ absent
IsFoundAt (Some b) absent m place = place_of b m.pairs ≡ Some place

-- a box as it was, or blank where it had a map of the tail
abbrev pub IsKeptOrCleared : Tail → Held → Held → Type 0
IsKeptOrCleared t m n = (n ≡ m) ⊎ ((n ≡ blank) × (m.tail ≡ t))

-- the boxes after the map of a tail was cleared, if there was one
pub record IsCleared (t : Tail) (ms ns : List Held) : Type 0 where
  pub many : length ns ≡ length ms
  pub gone : All (LacksMap t) ns
  pub kept : (k : ℕ) (d : Held) → k < length ms → IsKeptOrCleared t (slice_index_or ms k d) (slice_index_or ns k d)

-- a box has a map with a lease of so many cells
abbrev pub IsLeasing : ℕ → Held → Type 0
IsLeasing cells m = (m.is_blank ≡ false) × (cells ≡ m.cells)

-- One map less, and the cells of its lease; or no box had a map, and none came back.
abbrev pub IsOneCleared : List Held → List Held → ℕ → Type 0
IsOneCleared ms ns cells =
    (AreAllBlank ms × (ns ≡ ms) × (cells ≡ 0))
    ⊎ ((at : ℕ) × (at < length ms) × HasAt ms at (IsLeasing cells)
    × (ns ≡ slice_set ms at blank))

-- The boxes after some were dropped: at most so many, and all where there are no more. Those that went and those that
-- are left are those that were there, and of those that are left no two have maps of the same tail, if so before.
pub record AreDropped (most : ℕ) (ms ns : List Held) (gone : ℕ) : Type 0 where
  pub many : length ns + gone ≡ length ms
  pub few : gone ≤ most
  pub went : List Held
  pub all : length went ≡ gone
  pub parted : IsPermutation ms (went ++ ns)
  pub apart : AreApart ms → AreApart ns

-- The area after boxes were dropped: at most so many, and all where it has no more. Those that went and those that are
-- left are the boxes that were there.
pub record IsShed (most : ℕ) (x y : AreaState) (gone : ℕ) : Type 0 where
  pub attribute : y.attribute ≡ x.attribute
  pub from : y.from ≡ x.from
  pub below : y.below ≡ x.below
  pub inbox : y.inbox ≡ x.inbox
  pub spare : y.spare ≡ x.spare
  pub tape : y.tape ≡ x.tape
  pub many : length y.boxes + gone ≡ length x.boxes
  pub few : gone ≤ most
  pub went : List Held
  pub all : length went ≡ gone
  pub parted : IsPermutation x.boxes (went ++ y.boxes)
