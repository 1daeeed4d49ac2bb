-- What a map's box has: a purse while it is blank, a lease and pairs while it is in use.
use Rattle.std.specs.Prelude.{◌≡◌, ◌+◌, ◌≤◌, ℕ, Bool, true, false, None, Result, MatchResult}
use Rattle.sw_query.specs.declared.refusal.Refusal.{Refusal}
use Rattle.sw_query.specs.declared.refusal.Refusal.TheVariants.{Contended, NoMemory, Short}
use Rattle.sw_budget.specs.Account.{Account, Refused, asked, returned}
use Rattle.sw_map.specs.declared.active.Active as active
use Rattle.sw_map.specs.declared.home.Home.{Home}
use Rattle.sw_map.specs.declared.home.Home.TheVariants.{Blank, Active}
use Rattle.sw_map.specs.declared.home.Kept.{Kept}
use Rattle.sw_map.specs.Held.{Held, blank}

-- what a map in use holds; its cells are those that its lease holds
abbrev pub held_in : active.Active → Held
held_in a = record {
  is_blank = false;
  head = a.head;
  tail = a.tail;
  cells = a.lease.held;
  cursor = a.cursor;
  pairs = a.pairs.pieces;
}

-- what it holds
abbrev pub held_by : Home → Held
held_by (Blank idle) = blank
held_by (Active a) = held_in a

-- what it holds with what it kept and a lease of so many cells
abbrev pub held_with : Kept → ℕ → Held
held_with k cells = record {
  is_blank = false;
  head = k.head;
  tail = k.tail;
  cells = cells;
  cursor = k.cursor;
  pairs = k.pairs.pieces;
}

-- its seat at the budget
abbrev pub seat_of : Home → Account
seat_of (Blank idle) = idle.purse
seat_of (Active a) = a.lease

-- if it is blank, no lists stay with it
abbrev pub IsBare : Home → Type 0
IsBare (Blank idle) = idle.lists ≡ None
IsBare (Active a) = Unit {0}

-- it holds this, and this is its seat
abbrev pub IsHome : Held → Account → Home → Type 0
IsHome held seat home = (held_by home ≡ held) × (seat_of home ≡ seat)

-- it is blank, and its lease was given back for want of memory
abbrev pub IsGivenBack : Account → Home → Refusal → Type 0
IsGivenBack lease home e = (held_by home ≡ blank) × (seat_of home ≡ returned lease) × (e ≡ NoMemory)

-- the seat after a begin: one load and one compare-exchange, which took the cells
abbrev pub HasLeased : Account → ℕ → Account → Type 0
HasLeased a cells b = (b ≡ asked a cells b.seen b.seen) × (b.seen + cells ≤ a.capacity)

-- the seat after a begin that was refused: where the budget refused, as it left the purse; where memory was refused,
-- the lease was given back
abbrev pub HasReturned : Account → ℕ → Account → Refusal → Type 0
HasReturned a cells b NoMemory = b ≡ returned (asked a cells b.seen b.seen)
HasReturned a cells b e = Refused a cells b e

abbrev pub HasLeasedOr : {A : Type 0} → Result A Refusal → Account → ℕ → Account → Type 0
HasLeasedOr r a cells b = MatchResult r (λ _. HasLeased a cells b) (λ e. HasReturned a cells b e)

-- a refusal tells what the seat saw when it last asked: the cells in use and the capacity, or the two words that differed
abbrev pub IsLookOf : Account → Refusal → Type 0
IsLookOf a NoMemory = Unit {0}
IsLookOf a (Short used want capacity) = (a.seen ≡ used) × (a.found ≡ used) × (a.capacity ≡ capacity)
IsLookOf a (Contended seen found) = (a.seen ≡ seen) × (a.found ≡ found)
IsLookOf a _ = ⊥

-- the seat after a clear: what it held is given back, if it was in use
abbrev pub cleared : Account → Bool → Account
cleared a true = a
cleared a false = returned a

-- the seat after its lease was given back and so many cells were asked for: as after a clear and a begin
abbrev pub HasLeasedAnew : Result Bool Refusal → Account → ℕ → Account → Type 0
HasLeasedAnew r a cells b = HasLeasedOr r (returned a) cells b
