-- What ties the books of the sessions and of the heads to the spine.
use Rattle.std.specs.Prelude.{ℕ, ◌≡◌, ◌≢◌, ◌<◌, ◌≤◌, ◌+◌, ◌⊎◌, ◌++◌, List, [], ◌∷◌, length, map, set, Bool, true, false, Option, Some, None, is_some, slice_get, take, All, IfSome, MatchBool}
use Rattle.sw_rows.specs.Header.{Column}
use Rattle.sw_table.specs.declared.row.Row.{Row}
use Rattle.sw_table.specs.declared.row.Update.{Update}
use Rattle.sw_query.specs.declared.query.Query.{Query}
use Rattle.sw_query.specs.declared.query.Call.TheVariants as call
use Rattle.sw_query.specs.declared.refusal.Refusal.{Refusal}
use Rattle.sw_query.specs.declared.refusal.Refusal.TheVariants as refusal
use Rattle.sw_rows.specs.declared.table.TheConstants.{MOST_ROWS}
use Rattle.sw_lang.specs.Cuts.{AreCuts, CutLists, cuts_on}
use Rattle.sw_chunks.specs.Heads.{HeadState}
use Rattle.sw_chunks.specs.Shelved.{boxes_in}
use Rattle.sw_spine.specs.Table.{is_numbered, opened}
use Rattle.sw_spine.specs.History.{entry, mine}
use Rattle.sw_spine.specs.Books.{Books, new_books, took, waits_for}
use Rattle.sw_spine.specs.Receivable.{AreUpdates}
use Rattle.sw_spine.specs.declared.history.Entry.{Entry}
use Rattle.sw_spine.specs.declared.history.State.TheVariants as state
use Rattle.sw_spine.specs.declared.spine.TheConstants.{MOST_ENTRIES, MOST_SESSIONS}
use Rattle.sw_tie.specs.declared.Book.{Book}
use Rattle.sw_versions.specs.Rules.{updates_in}
use Rattle.sw_engine.specs.Later.{Begin}
use Rattle.sw_engine.specs.Published.{AreBehind, EndsEntry, Shown, answered_to}
use Rattle.sw_engine.specs.Own.{IsNew, own}
use Rattle.sw_tie.specs.declared.Share.{Share}

-- what a desk shows: the spine, whether each session's ticket came back, and how many heads have a share
pub record DeskState : Type 0 where
  pub books : Books
  pub given : List Bool
  pub heads : ℕ

abbrev pub desk : Books → List (Books × Bool) → List (Books × Bool) → DeskState
desk books sessions heads = record { books = books; given = map (λ r. r.1) sessions; heads = length heads }

abbrev pub new_desk : List Column → List Row → ℕ → DeskState
new_desk columns rows limit = record { books = new_books columns rows limit; given = []; heads = 0 }

-- the same calls were answered to a session, it waits for the same, its own entries are the same, all entries stay, and
-- no fewer sessions were made
abbrev pub IsShown : ℕ → Books → Books → Type 0
IsShown session a b =
    (mine session a.entries ≡ mine session b.entries) × (waits_for session a ≡ waits_for session b)
    × (own session a.entries ≡ own session b.entries) × Begin a.entries b.entries × (a.sessions ≤ b.sessions)

-- each row of the sessions' book shows what the spine keeps of its session; the sessions' numbers begin at 1
abbrev pub AreShown : Books → List (Books × Bool) → Type 0
AreShown s rows = (k : ℕ) (r : Books × Bool) → slice_get rows k ≡ Some r → IsShown (k + 1) r.0 s

-- each row of the heads' book shows what the head has taken
abbrev pub AreTaken : Books → List (Books × Bool) → Type 0
AreTaken s rows = (k : ℕ) (r : Books × Bool) → slice_get rows k ≡ Some r → took k r.0 ≡ took k s

pub record IsTied (s : Books) (rows heads : List (Books × Bool)) : Type 0 where
  pub shown : AreShown s rows
  pub taken : AreTaken s heads
  pub as_many : length rows ≡ s.sessions
  pub few : length heads ≤ 8

-- the table that the history began from
pub record IsOf (columns : List Column) (rows : List Row) (limit : ℕ) (s : Books) : Type 0 where
  pub columns_are : s.columns ≡ columns
  pub rows_are : s.rows ≡ rows
  pub limit_is : s.limit ≡ limit

-- the books have these names, one row was opened for each session, and both are tied to the spine, which began from
-- this table; no session's row is ahead of what is published, and that ends with an entry; and there are no more
-- sessions than there may be
pub record IsDesk (sessions_name heads_name : ℕ) (columns : List Column) (rows : List Row) (limit may : ℕ)
    (s : Books) (many most : ℕ) (sessions heads : Book Books) : Type 0 where
  pub sessions_named : sessions.name ≡ sessions_name
  pub heads_named : heads.name ≡ heads_name
  pub many_are : many ≡ length sessions.rows
  pub of : IsOf columns rows limit s
  pub tied : IsTied s sessions.rows heads.rows
  pub behind : AreBehind limit rows s sessions.rows
  pub ends : EndsEntry limit rows s.entries s.published
  pub most_is : most ≡ may
  pub few : may ≤ MOST_SESSIONS
  pub within : s.sessions ≤ may

-- what a head has received: the opening rows, before it is made
abbrev pub received_by : List Row → Option HeadState → List Update
received_by rows None = opened rows
received_by rows (Some h) = h.updates

-- how many boxes a head has: none, before it is made
abbrev pub held_by : Option HeadState → ℕ
held_by None = 0
held_by (Some h) = boxes_in h.areas

-- What a latch shows: all updates that were taken for its head, the opening rows first; whether the head is made; how
-- many blank boxes wait for it; and how many it has.
pub record LatchState : Type 0 where
  pub taken : List Update
  pub made : Bool
  pub waiting : ℕ
  pub held : ℕ

abbrev pub latched : List Row → Option HeadState → List Update → ℕ → LatchState
latched opening head inbox waiting = record {
  taken = received_by opening head ++ inbox;
  made = is_some head;
  waiting = waiting;
  held = held_by head;
}

-- What was taken for a head of this number is what its share shows; the head, once it is made, is of that attribute,
-- and may receive what waits; and a receipt, where it has one, is of all that was taken, after the opening rows.
pub record IsLatched (heads_name limit : ℕ) (columns : List Column) (opening : List Row) (number : ℕ)
    (head : Option HeadState) (inbox : List Update) (share : Share Books) (receipt : Option (List (List Update)))
    : Type 0 where
  pub named : share.name ≡ heads_name
  pub number_is : share.number ≡ number
  pub taken : received_by opening head ++ inbox ≡ took number share.value
  pub most : limit ≤ MOST_ROWS
  pub may_come : AreUpdates limit (received_by opening head ++ inbox)
  pub place : number < length columns
  pub attribute : IfSome head (λ h. h.attribute ≡ number)
  pub few : number < 8
  pub receipted : IfSome receipt (λ r. took number share.value ≡ opened opening ++ updates_in r)

-- no box is lost: each of those that waited or were held still waits, or is held
abbrev pub KeepsBoxes : LatchState → LatchState → Type 0
KeepsBoxes old new = new.waiting + new.held ≡ old.waiting + old.held

-- but for its boxes, the same
abbrev pub IsSameButBoxes : LatchState → LatchState → Type 0
IsSameButBoxes old new = new ≡ record old { waiting = new.waiting; held = new.held }

-- what an engine is opened with: a limit of rows, opening rows in order and no more than that, 1 to 8 attributes, and a list of
-- cuts for each
pub record IsGround (columns : List Column) (opening : List Row) (limit : ℕ) (cuts : CutLists) : Type 0 where
  pub some : 0 < limit
  pub most : limit ≤ MOST_ROWS
  pub numbered : is_numbered 1 opening ≡ true
  pub within : length opening ≤ limit
  pub columned : 0 < length columns
  pub few : length columns ≤ 8
  pub lists : length cuts ≡ length columns
  pub lawful : (a : ℕ) → a < length columns → AreCuts (cuts_on cuts a)

-- a head that was just made: it stands for the opening rows, and has no box
pub record IsNewHead (attribute : ℕ) (opening : List Row) (h : HeadState) : Type 0 where
  pub attribute_is : h.attribute ≡ attribute
  pub updates_are : h.updates ≡ opened opening
  pub no_boxes : boxes_in h.areas ≡ 0

-- a head that lacks more than so many of these updates takes the next so many; another one none
abbrev pub TakesPart : ℕ → List Update → List Update → List Update → Bool → Type 0
TakesPart most us old new more =
    MatchBool more
    ((length old + most < length us) × (new ≡ take (length old + most) us))
    ((length us ≤ length old + most) × (new ≡ old))

-- a head that took these lacks no more than so many of the updates
abbrev pub LacksFew : ℕ → List Update → List Update → Type 0
LacksFew most taken us = length us ≤ length taken + most

-- but for what heads have taken, the same
abbrev pub IsSameButTaken : Books → Books → Type 0
IsSameButTaken old new = new ≡ record old { taken = new.taken }

-- the history has one open entry more, at its end
abbrev pub IsBegun : ℕ → Query → Books → Books → Type 0
IsBegun session q old new = new.entries ≡ old.entries ++ entry session (call.Select q) state.Open ∷ []

-- why a call is refused
abbrev pub RefusesCall : Refusal → Type 0
RefusesCall refusal.NoMemory = Unit {0}
RefusesCall (refusal.HistoryFull entries) = entries ≡ MOST_ENTRIES
RefusesCall other = ⊥

-- a call is refused since the history is full only where it is
abbrev pub TellsFull : List Entry → Refusal → Type 0
TellsFull es (refusal.HistoryFull entries) = length es ≡ MOST_ENTRIES
TellsFull es other = Unit {0}

-- why no session is opened: as many were as there may be, or no memory with fewer
abbrev pub RefusesNext : ℕ → Books → Refusal → Type 0
RefusesNext most b refusal.NoMemory = b.sessions < most
RefusesNext most b (refusal.TooMany limit) = (limit ≡ most) × (b.sessions ≡ most)
RefusesNext most b other = ⊥

-- the same, for who does not see how many were
abbrev pub TooManySessions : ℕ → Refusal → Type 0
TooManySessions most refusal.NoMemory = Unit {0}
TooManySessions most (refusal.TooMany limit) = limit ≡ most
TooManySessions most other = ⊥

-- these tickets came back one after the other, each for the first time; the sessions' numbers begin at 1
abbrev pub AreGiven : List Shown → List Bool → List Bool → Type 0
AreGiven [] before after = before ≡ after
AreGiven (t ∷ ts) before after =
    (n : ℕ) × (t.0 ≡ n + 1) × (slice_get before n ≡ Some false) × AreGiven ts (set before n true) after

-- one of these tickets has the number
abbrev pub IsNamed : {X : Type 0} → ℕ → List (ℕ × X) → Type 0
IsNamed k [] = ⊥
IsNamed k (t ∷ ts) = (t.0 ≡ k) ⊎ IsNamed k ts

-- the tickets of new sessions with the numbers n, n + 1, n + 2 and so on
abbrev pub InOrder : ℕ → List Shown → Type 0
InOrder n [] = Unit {0}
InOrder n (t ∷ ts) = (t.0 ≡ n) × IsNew t × InOrder (n + 1) ts

-- the numbers n, n + 1, n + 2 and so on
abbrev pub AreCounted : ℕ → List ℕ → Type 0
AreCounted n [] = Unit {0}
AreCounted n (k ∷ ks) = (k ≡ n) × AreCounted (n + 1) ks

-- so many sessions were made: that of a ticket, and no fewer than it showed
abbrev pub IsMade : ℕ → Shown → Type 0
IsMade made t = (t.0 ≤ made) × (t.2.sessions ≤ made)

-- as many tickets as sessions may be made, that of the last one among them
abbrev pub AreAll : ℕ → List Shown → Type 0
AreAll most ts = (length ts ≡ most) × (0 < most → IsNamed most (map answered_to ts))

-- so many sessions were made, and another number of tickets came back
abbrev pub AreOut : ℕ → ℕ → Refusal → Type 0
AreOut made given e = (e ≡ refusal.SharesOut made given) × (made ≢ given)

-- why an engine is not closed; then the tickets come back, and are of sessions that were made, which are no more than may be
abbrev pub RefusesClose : ℕ → List Shown → List Shown → Refusal → Type 0
RefusesClose most given back e =
    (back ≡ given) × (made : ℕ) × AreOut made (length given) e × (made ≤ most) × All (IsMade made) given

-- why tickets are refused to so many sessions
abbrev pub RefusesMany : ℕ → ℕ → Refusal → Type 0
RefusesMany most sessions refusal.NoMemory = Unit {0}
RefusesMany most sessions (refusal.TooMany limit) = (most < sessions) × (limit ≡ most)
RefusesMany most sessions other = ⊥

-- why no engine is opened with the tickets of so many sessions
abbrev pub RefusesOpening : ℕ → List Row → ℕ → ℕ → Refusal → Type 0
RefusesOpening limit rows most sessions refusal.NoMemory = length rows ≤ limit
RefusesOpening limit rows most sessions (refusal.TooMany n) =
    ((limit < length rows) × (n ≡ limit)) ⊎ ((most < sessions) × (n ≡ most))
RefusesOpening limit rows most sessions other = ⊥
