-- What a seat shows, and how it stands beside the history.
use Rattle.std.specs.Prelude.{◌≡◌, ◌<◌, ◌+◌, ◌++◌, ℕ, List, length, slice_index_or, take, Option, Some, None, IfSome}
use Rattle.sw_table.specs.declared.row.Row.{Row}
use Rattle.sw_table.specs.declared.row.Update.{Update}
use Rattle.sw_chunks.specs.Heads.{HeadState}
use Rattle.sw_lang.specs.Cuts.{AreCuts, CutLists, cuts_on}
use Rattle.sw_spine.specs.Table.{opened}
use Rattle.sw_spine.specs.Books.{Books, IsCount, updates}

-- the attribute of a head, what the head received, once it is made, and how many updates count as received
pub record SeatState : Type 0 where
  pub place : ℕ
  pub received : Option (List Update)
  pub taken : ℕ

abbrev pub received_by : Option HeadState → Option (List Update)
received_by None = None
received_by (Some h) = Some h.updates

abbrev pub seated : ℕ → Option HeadState → ℕ → SeatState
seated place head taken = record { place = place; received = received_by head; taken = taken }

-- the head, once it is made, is that of the attribute
pub record IsSeat (place : ℕ) (head : Option HeadState) : Type 0 where
  pub few : place < 8
  pub attribute : IfSome head (λ h. h.attribute ≡ place)

-- what a head received; before it is made, the opening rows
abbrev pub or_opened : List Row → Option (List Update) → List Update
or_opened rows None = opened rows
or_opened rows (Some us) = us

abbrev pub received_or : List Row → SeatState → List Update
received_or rows s = or_opened rows s.received

-- the head is made, and received this
abbrev pub with_received : List Update → SeatState → SeatState
with_received us s = record s { received = Some us }

-- it received more
abbrev pub and_more : List Update → Option (List Update) → Option (List Update)
and_more late None = None
and_more late (Some us) = Some (us ++ late)

abbrev pub with_more : List Update → SeatState → SeatState
with_more late s = record s { received = and_more late s.received; taken = s.taken + length late }

-- The seat of an attribute beside the history: what its head received is a beginning of the updates, as long as its count.
pub record IsSeated (b : Books) (place : ℕ) (s : SeatState) : Type 0 where
  pub place_is : s.place ≡ place
  pub count : IsCount b s.taken
  pub received : received_or b.rows s ≡ take s.taken (updates b)

-- there is a seat for each attribute
pub record AreSeated (b : Books) (seats : List SeatState) : Type 0 where
  pub many : length seats ≡ length b.columns
  pub each : (k : ℕ) (d : SeatState) → k < length seats → IsSeated b k (slice_index_or seats k d)

-- the cuts of a table's heads: a list for each attribute, of at most 15 values that rise
pub record AreTableCuts (b : Books) (cuts : CutLists) : Type 0 where
  pub lists : length cuts ≡ length b.columns
  pub lawful : (a : ℕ) → a < length b.columns → AreCuts (cuts_on cuts a)

-- the seat of an attribute whose head is not made, and which counts so many updates as received
abbrev pub new_seat : ℕ → ℕ → SeatState
new_seat taken place = record { place = place; received = None; taken = taken }

-- those of the first attributes
abbrev pub AreNewSeats : ℕ → ℕ → List SeatState → Type 0
AreNewSeats taken many seats =
    (length seats ≡ many)
    × ((k : ℕ) (d : SeatState) → k < many → slice_index_or seats k d ≡ new_seat taken k)
