-- What an area is, which rows it stands for, and when it is lawful.
use Rattle.std.specs.Prelude.{◌≡◌, ◌≢◌, ◌≤◌, ◌<◌, ◌^◌, ℕ, ℤ, Bool, true, false, List, [], ◌∷◌, ◌++◌, fold, length, slice_index_or, slice_set, Option, All}
use Rattle.sw_table.specs.declared.row.Row.{Row}
use Rattle.sw_table.specs.declared.row.Update.{Update}
use Rattle.sw_table.specs.declared.row.Update.TheVariants as update
pub use Rattle.sw_table.specs.Live.{Rises, key_of}
use Rattle.sw_query.specs.Bounds.{is_within}
use Rattle.sw_query.specs.Scan.{cell_of}
use Rattle.sw_table.specs.Updates.{has_key, rows_then}
use Rattle.sw_kernel.specs.Arrangement.{joined}
use Rattle.sw_kernel.specs.Replay.{Step, loaded}
use Rattle.sw_kernel.specs.Tapes.{IsTape, live_rows, brought}
use Rattle.sw_map.specs.Held.{Held, KeysFit}
use Rattle.sw_map.specs.Lawful.{IsLawful, rows_by}
use Rattle.sw_tape.specs.declared.tape.TheConstants.{MAX_ENTRIES}
use Rattle.sw_set.specs.Inbox.{Waiting}
use Rattle.sw_set.specs.Needs.{edge}

-- An area: the attribute that is the head of its maps, the interval of its rows' cells there (from the one value, below
-- the other), the updates that wait, how many more may come before they take memory, the tape, and the boxes.
pub record AreaState : Type 0 where
  pub attribute : ℕ
  pub from : Option ℤ
  pub below : Option ℤ
  pub inbox : List Update
  pub spare : ℕ
  pub tape : List (Step Row)
  pub boxes : List Held

-- an area that is opened with rows: its tape is one load of them, and it has no boxes
abbrev pub loaded_area : ℕ → Option ℤ → Option ℤ → List Row → AreaState
loaded_area attribute from below rows = record {
  attribute = attribute;
  from = from;
  below = below;
  inbox = [];
  spare = 0;
  tape = loaded rows ∷ [];
  boxes = [];
}

-- an area by its fields
abbrev pub area_over : ℕ → Option ℤ → Option ℤ → Waiting → List (Step Row) → List Held → AreaState
area_over attribute from below inbox tape boxes = record {
  attribute = attribute;
  from = from;
  below = below;
  inbox = inbox.updates;
  spare = inbox.spare;
  tape = tape;
  boxes = boxes;
}

-- the area with another inbox
abbrev pub with_inbox : Waiting → AreaState → AreaState
with_inbox inbox x = record x { inbox = inbox.updates; spare = inbox.spare }

-- the area with another map in the box at a place
abbrev pub with_box : ℕ → Held → AreaState → AreaState
with_box at m x = record x { boxes = slice_set x.boxes at m }

-- the live rows of the tape
abbrev pub logged_rows : ℕ → List (Step Row) → List Row
logged_rows a tape = live_rows (cell_of a) key_of tape

-- those of an area's tape
abbrev pub tape_rows : AreaState → List Row
tape_rows x = logged_rows x.attribute x.tape

-- those rows in the order in which the tape arranges them
abbrev pub arranged_rows : AreaState → List Row
arranged_rows x = joined (rows_by x.attribute x.tape)

-- those that some updates leave
abbrev pub rows_left_by : List Update → AreaState → List Row
rows_left_by us x = fold rows_then (tape_rows x) us

-- the rows that an area stands for: those of the tape, and then what waits
abbrev pub rows_in : AreaState → List Row
rows_in x = rows_left_by x.inbox x

-- whether a row's cell lies in the interval
abbrev pub lies_within : ℕ → Option ℤ → Option ℤ → Row → Bool
lies_within a from below r = is_within (edge from) (edge below) (cell_of a r)

-- it lies in that of an area
abbrev pub LiesIn : AreaState → Row → Type 0
LiesIn x r = lies_within x.attribute x.from x.below r ≡ true

-- the rows that ever came, after one more update
abbrev pub came_then : List Row → Update → List Row
came_then rs (update.Insert r) = rs ++ r ∷ []
came_then rs (update.Remove key) = rs

-- the rows that came to an area since its tape began, those that wait among them
abbrev pub came_in : AreaState → List Row
came_in x = fold came_then (brought x.tape) x.inbox

-- each number that exceeds the keys of all rows that came to x exceeds those of y
abbrev pub BringsNoMore : AreaState → AreaState → Type 0
BringsNoMore x y = (n : ℕ) → All (λ (r : Row). r.key < n) (came_in x) → All (λ (r : Row). r.key < n) (came_in y)

-- What an area may receive, where these rows came and these of them are live: a row of its interval whose key fits a
-- signed cell and exceeds those of all that came; the removal of a live one.
abbrev pub MayReceive : ℕ → Option ℤ → Option ℤ → List Row → List Row → Update → Type 0
MayReceive a from below came live (update.Insert r) =
    All (λ (c : Row). c.key < r.key) came × (r.key < 2 ^ 63) × (lies_within a from below r ≡ true)
MayReceive a from below came live (update.Remove key) = has_key key live ≡ true

-- one after the other
abbrev pub AreReceivable : ℕ → Option ℤ → Option ℤ → List Row → List Row → List Update → Type 0
AreReceivable a from below came live [] = Unit {0}
AreReceivable a from below came live (u ∷ us) =
    MayReceive a from below came live u × AreReceivable a from below (came_then came u) (rows_then live u) us

-- an area may receive these behind what waits
abbrev pub MayReceiveAll : List Update → AreaState → Type 0
MayReceiveAll us x = AreReceivable x.attribute x.from x.below (came_in x) (rows_in x) us

-- these may be merged next into an area's tape
abbrev pub MayMergeAll : List Update → AreaState → Type 0
MayMergeAll us x = AreReceivable x.attribute x.from x.below (brought x.tape) (tape_rows x) us

-- this one may
abbrev pub MayMerge : Update → AreaState → Type 0
MayMerge u x = MayReceive x.attribute x.from x.below (brought x.tape) (tape_rows x) u

-- these may come to an area of this interval that has just these rows
abbrev pub MayComeAfterLoad : List Row → List Update → AreaState → Type 0
MayComeAfterLoad rows us x = AreReceivable x.attribute x.from x.below rows rows us

-- no two boxes that are not blank have maps of the same tail
unfoldable pub AreApart : List Held → Type 0
AreApart ms =
    (i j : ℕ) (d e : Held) → i < length ms → j < length ms → i ≢ j → (slice_index_or ms i d).is_blank ≡ false →
    (slice_index_or ms j e).is_blank ≡ false → (slice_index_or ms i d).tail ≢ (slice_index_or ms j e).tail

-- a box that is not blank has a lease of some cells
abbrev pub HasLease : Held → Type 0
HasLease m = m.is_blank ≡ false → 0 < m.cells

-- The tape holds rows of the interval, by rising keys; each box is blank, or lawful at some cursor of it with a lease;
-- and what waits may be received.
pub record IsAreaLawful (x : AreaState) : Type 0 where
  pub attribute : x.attribute < 8
  pub tape : IsTape x.tape
  pub short : length x.tape ≤ MAX_ENTRIES
  pub keys : All (λ (e : Step Row). KeysFit e) x.tape
  pub brought_rise : Rises key_of (brought x.tape)
  pub rows_rise : Rises key_of (tape_rows x)
  pub rows_fit : All (λ (r : Row). r.key < 2 ^ 63) (tape_rows x)
  pub within : All (LiesIn x) (tape_rows x)
  pub boxes : All (IsLawful x.attribute x.tape) x.boxes
  pub leases : All HasLease x.boxes
  pub apart : AreApart x.boxes
  pub receivable : MayMergeAll x.inbox x

-- the area but for its boxes and its tape; it stands for the same rows
pub record IsSameArea (x y : AreaState) : Type 0 where
  pub attribute : y.attribute ≡ x.attribute
  pub from : y.from ≡ x.from
  pub below : y.below ≡ x.below
  pub inbox : y.inbox ≡ x.inbox
  pub spare : y.spare ≡ x.spare
  pub logged : logged_rows y.attribute y.tape ≡ logged_rows x.attribute x.tape
  pub many : length y.boxes ≡ length x.boxes
  pub brings : BringsNoMore x y
