-- What a head is, and which rows it stands for.
use Rattle.std.specs.Prelude.{◌≡◌, ◌∷◌, ◌++◌, ◌<◌, ◌≤◌, ◌^◌, ◌&&◌, ◌≤ℤ◌, neg_ℤ, pos, ℕ, ℤ, Bool, List, [], true, false, get_or, length, map, filter, slice_set, None, All}
use Rattle.sw_table.specs.declared.row.Row.{Row}
use Rattle.sw_table.specs.declared.row.Update.{Update}
use Rattle.sw_table.specs.declared.row.Update.TheVariants as update
use Rattle.sw_query.specs.declared.query.Query.{Query}
use Rattle.sw_query.specs.declared.refusal.Refusal.{Refusal}
use Rattle.sw_query.specs.declared.refusal.Refusal.TheVariants.{NoMemory}
use Rattle.sw_query.specs.Scan.{cell_of}
use Rattle.sw_table.specs.Packed.{Packed}
use Rattle.sw_table.specs.Updates.{rows_of}
use Rattle.sw_map.specs.Held.{blank}
use Rattle.sw_set.specs.Needs.{edge, lower_in, touches, upper_in}
use Rattle.sw_set.specs.Shelf.{AreaState, Rises, came_in, key_of, loaded_area, rows_in}
use Rattle.sw_set.specs.Prepared.{IsSameButBoxes, area_lower, area_upper, is_touched, stands_if}
use Rattle.sw_chunks.specs.Routing.{CameHere, given_by}
pub use Rattle.sw_chunks.specs.Routing.{interval_of, part_of}
use Rattle.sw_chunks.specs.Places.{owners_kept}
use Rattle.sw_chunks.specs.Cleared.{AreEach, HoldsOfEach}
use Rattle.sw_chunks.specs.Shelved.{IsFewest}
use Rattle.sw_chunks.specs.Cuts.{Interval, RiseAbove, intervals}
use Rattle.sw_chunks.specs.declared.places.TheConstants.{MOST_CUTS}

-- The attribute that is the head, its cuts, the list of all that it was opened with and received, and an area for each
-- interval, in order.
pub record HeadState : Type 0 where
  pub attribute : ℕ
  pub cuts : List ℤ
  pub updates : List Update
  pub areas : List AreaState

-- parts of rows, one for each interval of the cuts: each has the rows that lie there
abbrev pub ArePartsOf : ℕ → List ℤ → List Row → List Packed → Type 0
ArePartsOf a cuts rows parts =
    (k : ℕ) (d : Packed) (i : Interval) → k ≤ length cuts
    → (get_or parts k d).items ≡ part_of a rows (get_or (intervals cuts) k i)

-- Each area has the rows of these updates that lie in its interval, and no key that came to it exceeds all that came by
-- them.
pub record StandsFor (us : List Update) (a : ℕ) (cuts : List ℤ) (xs : List AreaState) : Type 0 where
  pub rise : Rises key_of (rows_of us)
  pub parts : map rows_in xs ≡ map (part_of a (rows_of us)) (intervals cuts)
  pub came : All (λ (x : AreaState). CameHere (given_by us) (came_in x)) xs

-- the areas are those of an attribute, one for each interval of the cuts
pub record AreAreasOf (a : ℕ) (cuts : List ℤ) (xs : List AreaState) : Type 0 where
  pub attribute : a < 8
  pub rising : RiseAbove None cuts
  pub few : length cuts ≤ MOST_CUTS
  pub attributes : All (λ (x : AreaState). x.attribute ≡ a) xs
  pub intervals_are : map interval_of xs ≡ intervals cuts

-- a cell of 64 bits
abbrev pub IsCell : ℤ → Type 0
IsCell z = (neg_ℤ (pos (2 ^ 63)) ≤ℤ z) × (z ≤ℤ pos (2 ^ 63))

-- the cells of a row that comes are of 64 bits
abbrev pub CellsFit : Update → Type 0
CellsFit (update.Insert r) = (a : ℕ) → IsCell (cell_of a r)
CellsFit (update.Remove key) = Unit {0}

-- the updates that a book lists
abbrev pub told_in : List (Update × Bool) → List Update
told_in rows = map (λ r. r.0) rows

-- a row whose key and cells are of their types
pub record RowFits (r : Row) : Type 0 where
  pub key : r.key < 2 ^ 63
  pub cells : (a : ℕ) → IsCell (cell_of a r)

pub record IsHeadLawful (h : HeadState) : Type 0 where
  pub areas_of : AreAreasOf h.attribute h.cuts h.areas
  pub stands : StandsFor h.updates h.attribute h.cuts h.areas
  pub fit : All RowFits (given_by h.updates)
  pub came_rise : Rises key_of (given_by h.updates)

-- the head of these parts
abbrev pub head_of : ℕ → List ℤ → List (Update × Bool) → List AreaState → HeadState
head_of a cuts told xs = record { attribute = a; cuts = cuts; updates = told_in told; areas = xs }

-- the head is lawful, and these are the owners that it keeps
abbrev pub IsKeptBy : List (ℕ × ℕ) → HeadState → Type 0
IsKeptBy owners h = IsHeadLawful h × (owners ≡ owners_kept h.attribute h.cuts (given_by h.updates))

-- the head, for its callers: it has the same attribute and cuts, and stands for the same updates
pub record IsSameHead (g h : HeadState) : Type 0 where
  pub attribute : h.attribute ≡ g.attribute
  pub cuts : h.cuts ≡ g.cuts
  pub updates : h.updates ≡ g.updates
  pub many : length h.areas ≡ length g.areas

-- an area of these rows that lie in an interval, which nothing came to
abbrev pub opened_area : ℕ → List Row → Interval → AreaState
opened_area a rows i = loaded_area a i.0 i.1 (part_of a rows i)

-- one of each interval
abbrev pub opened_areas : ℕ → List ℤ → List Row → List AreaState
opened_areas a cuts rows = map (opened_area a rows) (intervals cuts)

-- a head opened with rows: they stand as insertions, and no area has boxes
abbrev pub opened : ℕ → List ℤ → List Row → HeadState
opened a cuts rows =
    record { attribute = a; cuts = cuts; updates = map update.Insert rows; areas = opened_areas a cuts rows }

-- whether a query touches an interval
abbrev pub meets_interval : Query → Interval → Bool
meets_interval q i = touches (edge i.0) (edge i.1) (lower_in q.conds) (upper_in q.conds)

-- the query's bounds in an area that it touches stand in ranges of its tape
abbrev pub IsRanged : Query → AreaState → Type 0
IsRanged q x = is_touched x q ≡ true → stands_if (area_lower x q) x.tape && stands_if (area_upper x q) x.tape ≡ true

-- the areas that a query does not touch are as they were, but that maps may have been cleared
abbrev pub AreUntouchedKept : Query → List AreaState → List AreaState → Type 0
AreUntouchedKept q xs ys = HoldsOfEach (λ x y. is_touched x q ≡ false → IsSameButBoxes x y) xs ys

-- they are what they were
abbrev pub AreUntouchedSame : Query → List AreaState → List AreaState → Type 0
AreUntouchedSame q xs ys = HoldsOfEach (λ x y. is_touched x q ≡ false → y ≡ x) xs ys

-- the areas that a query touches
abbrev pub touched_of : Query → List AreaState → List AreaState
touched_of q xs = filter (λ (x : AreaState). is_touched x q) xs

-- the area but for what waits
pub record IsSameButInbox (x y : AreaState) : Type 0 where
  pub attribute : y.attribute ≡ x.attribute
  pub from : y.from ≡ x.from
  pub below : y.below ≡ x.below
  pub tape : y.tape ≡ x.tape
  pub boxes : y.boxes ≡ x.boxes

-- the area but for how many updates more may come before they take memory
abbrev pub IsSameButSpare : AreaState → AreaState → Type 0
IsSameButSpare x y = y ≡ record x { spare = y.spare }

-- The head after it received updates: they stand at the end of its list, and wait in its areas.
pub record HasReceived (us : List Update) (g h : HeadState) : Type 0 where
  pub attribute : h.attribute ≡ g.attribute
  pub cuts : h.cuts ≡ g.cuts
  pub updates : h.updates ≡ g.updates ++ us
  pub areas : AreEach IsSameButInbox g.areas h.areas

-- The head after it refused updates: it is what it was, but for the room of its areas.
pub record IsSameButRoom (g h : HeadState) : Type 0 where
  pub same : IsSameHead g h
  pub areas : AreEach IsSameButSpare g.areas h.areas

-- an area with one blank box more
abbrev pub with_blank : AreaState → AreaState
with_blank x = record x { boxes = x.boxes ++ blank ∷ [] }

-- The area with the fewest boxes, of several the lowest, has one blank box more.
pub record IsSupplied (g h : HeadState) : Type 0 where
  pub at : ℕ
  pub fewest : IsFewest at g.areas
  pub supplied : (d : AreaState) → h ≡ record g { areas = slice_set g.areas at (with_blank (get_or g.areas at d)) }

-- for want of memory nothing has changed, and what was handed in comes back
abbrev pub ComesBack : {X Y : Type 0} → X → X → Y → Y × Refusal → Type 0
ComesBack was now it r = (now ≡ was) × (r.0 ≡ it) × (r.1 ≡ NoMemory)
