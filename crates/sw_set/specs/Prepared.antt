-- What `prepare` makes of an area, and why it is refused.
use Rattle.std.specs.Prelude.{◌≡◌, ◌<◌, ◌+◌, ◌-◌, ◌*◌, ◌/◌, ◌&&◌, ◌⊎◌, ℕ, Bool, true, false, max, List, [], ◌∷◌, ◌++◌, length, Option, Some, None, Result, IsErrAnd, Any, Contains}
use Rattle.sw_query.specs.declared.bound.Bound.{Bound}
use Rattle.sw_table.specs.declared.row.Row.{Row}
use Rattle.sw_query.specs.declared.query.Query.{Query}
use Rattle.sw_query.specs.declared.refusal.Refusal.{Refusal}
use Rattle.sw_query.specs.declared.refusal.Refusal.TheVariants.{Contended, NoBlank, Short}
use Rattle.sw_kernel.specs.Arrangement.{Arrangement}
use Rattle.sw_kernel.specs.Replay.{Step, loaded, ranged}
use Rattle.sw_kernel.specs.Tapes.{is_marked, peak_from}
use Rattle.sw_map.specs.declared.tail.Tail.{Tail}
use Rattle.sw_map.specs.Held.{Held, place_of}
use Rattle.sw_map.specs.Lawful.{rows_by}
use Rattle.sw_map.specs.Refusals.{IsBeginRefusal}
use Rattle.sw_set.specs.declared.prepare.TheConstants.{CELL_BLOCK}
use Rattle.sw_set.specs.Needs.{edge, touches, lower_in, upper_in, lower_from, upper_upto, needed}
pub use Rattle.sw_set.specs.Boxed.{IsOneCleared, IsSameButBoxes, IsShed, LacksOne}
use Rattle.sw_set.specs.Shelf.{AreaState, arranged_rows, tape_rows}
use Rattle.sw_set.specs.Sought.{AreAllNeeded}
use Rattle.sw_tape.specs.declared.tape.TheConstants.{MAX_ENTRIES}

-- a bound that is there stands in a range of the tape
abbrev pub stands_if : Option Bound → List (Step Row) → Bool
stands_if None tape = true
stands_if (Some b) tape = is_marked b tape

-- both bounds of a range do
abbrev pub stand_both : Option Bound → Option Bound → List (Step Row) → Bool
stand_both lower upper tape = stands_if lower tape && stands_if upper tape

-- What a query with these bounds makes of the tape: nothing where they stand in it; otherwise one range more, after a
-- restart with these rows where the tape is full.
pub record IsNoted (lower upper : Option Bound) (rows : List Row) (old new : List (Step Row)) : Type 0 where
  pub stood : stand_both lower upper old ≡ true → new ≡ old
  pub added : stand_both lower upper old ≡ false → length old < MAX_ENTRIES → new ≡ old ++ ranged lower upper ∷ []
  pub restarted :
      stand_both lower upper old ≡ false → length old ≡ MAX_ENTRIES → new ≡ loaded rows ∷ ranged lower upper ∷ []

-- a map of this tail that stands at the tape's end
pub record IsReady (tail : Tail) (tape : List (Step Row)) (m : Held) : Type 0 where
  pub begun : m.is_blank ≡ false
  pub tail_is : m.tail ≡ tail
  pub at_end : m.cursor ≡ length tape

-- where a range's bound stands among the rows in their pieces; an absent one stands at a given place
abbrev pub IsPlace : Option Bound → ℕ → Arrangement Row → ℕ → Type 0
IsPlace None absent rows place = place ≡ absent
IsPlace (Some b) absent rows place = place_of b rows ≡ Some place

-- of each of these tails a map stands at the tape's end
abbrev pub StandReady : List Tail → List (Step Row) → List Held → Type 0
StandReady tails tape ms = (t : Tail) → Contains tails t → Any (IsReady t tape) ms

-- for each needed tail there is a map at the tape's end, and the range is that of the bounds
pub record IsPrepared (lower upper : Option Bound) (tails : List Tail) (x : AreaState) (from upto : ℕ) : Type 0 where
  pub maps : StandReady tails x.tape x.boxes
  pub lower_at : IsPlace lower 0 (rows_by x.attribute x.tape) from
  pub upper_at : IsPlace upper (length (arranged_rows x)) (rows_by x.attribute x.tape) upto

-- the bounds of a query in an area
abbrev pub area_lower : AreaState → Query → Option Bound
area_lower x q = lower_from (edge x.from) (lower_in q.conds)

abbrev pub area_upper : AreaState → Query → Option Bound
area_upper x q = upper_upto (edge x.below) (upper_in q.conds)

-- whether a query touches an area
abbrev pub is_touched : AreaState → Query → Bool
is_touched x q = touches (edge x.from) (edge x.below) (lower_in q.conds) (upper_in q.conds)

-- How an area stands that is prepared for a query, and the range of places that qualify: each needed map at the tape's
-- end, and the bounds' places; for a query that does not touch it, the empty range.
pub record IsPreparedFor (q : Query) (x : AreaState) (from upto : ℕ) : Type 0 where
  pub touched : is_touched x q ≡ true → IsPrepared (area_lower x q) (area_upper x q) (needed x.attribute q) x from upto
  pub untouched : is_touched x q ≡ false → (from ≡ 0) × (upto ≡ 0)

-- how the tape stands afterwards
pub record IsNotedFor (q : Query) (x : AreaState) (new : List (Step Row)) : Type 0 where
  pub touched : is_touched x q ≡ true → IsNoted (area_lower x q) (area_upper x q) (tape_rows x) x.tape new
  pub untouched : is_touched x q ≡ false → new ≡ x.tape

-- A full tape lacks the range, and was begun anew with these rows; the range is not logged yet.
pub record IsBegunFor (lower upper : Option Bound) (rows : List Row) (old new : List (Step Row)) : Type 0 where
  pub lacked : stand_both lower upper old ≡ false
  pub full : length old ≡ MAX_ENTRIES
  pub begun : new ≡ loaded rows ∷ []

-- how the tape may stand after a refusal: as before, or noted, or begun anew for the range
abbrev pub IsPartlyNoted : Query → AreaState → List (Step Row) → Type 0
IsPartlyNoted q x new =
    (new ≡ x.tape) ⊎ (IsNotedFor q x new ⊎ IsBegunFor (area_lower x q) (area_upper x q) (tape_rows x) x.tape new)

-- the cells for so many pairs: whole blocks, and one at least
abbrev pub cells_for : ℕ → ℕ
cells_for n = max CELL_BLOCK (CELL_BLOCK * ((n + (CELL_BLOCK - 1)) / CELL_BLOCK))

-- why an area of so many boxes was not prepared for so many maps of so many cells
abbrev pub IsPrepareRefusal : ℕ → ℕ → ℕ → Refusal → Type 0
IsPrepareRefusal boxes many cells (NoBlank has needs) = (has ≡ boxes) × (needs ≡ many) × (has < needs)
IsPrepareRefusal boxes many cells e = IsBeginRefusal cells e

-- the cells that each map of an area asks for
abbrev pub cells_asked : AreaState → ℕ
cells_asked x = cells_for (peak_from 0 x.tape)

-- why x was not prepared for a query, and is y then
abbrev pub IsWhyUnprepared : Query → AreaState → AreaState → Refusal → Type 0
IsWhyUnprepared q x y e =
    IsPrepareRefusal (length x.boxes) (length (needed x.attribute q)) (cells_asked y) e

-- the refusal says that the budget has too few cells left
abbrev pub IsShort : Refusal → Type 0
IsShort (Short used want capacity) = Unit {0}
IsShort e = ⊥

-- the refusal is the budget's: too few cells, or another thread changed its word
abbrev pub IsOfBudget : Refusal → Type 0
IsOfBudget (Short used want capacity) = Unit {0}
IsOfBudget (Contended seen found) = Unit {0}
IsOfBudget e = ⊥

-- the budget's refusal is what a map tells of a begin or growth that it was refused
abbrev pub ComesFromMap : {M : Type 0} → (M → Refusal → Type 0) → Refusal → Type 0
ComesFromMap {M} tells e = IsOfBudget e → (m : M) × tells m e

-- the query touches the area and needs more maps than there are boxes
abbrev pub HasTooFew : AreaState → Query → Type 0
HasTooFew x q = (is_touched x q ≡ true) × (length x.boxes < length (needed x.attribute q))

-- and how that is told
abbrev pub no_blank : AreaState → Query → Refusal
no_blank x q = NoBlank (length x.boxes) (length (needed x.attribute q))

-- it was told so, and nothing has changed
abbrev pub IsToldTooFew : {A : Type 0} → Result A Refusal → Query → AreaState → AreaState → Type 0
IsToldTooFew r q x y = IsErrAnd r (λ e. e ≡ no_blank x q) × (y ≡ x)

-- A refusal comes only where the query touches the area; the budget's comes only where a needed map is left without its
-- cells; and there are too few cells only where each map that is left is needed.
pub record IsHindered (q : Query) (x y : AreaState) (e : Refusal) : Type 0 where
  pub touched : is_touched x q ≡ true
  pub lacking : IsOfBudget e → LacksOne (needed x.attribute q) (cells_asked y) y.boxes
  pub spent : IsShort e → AreAllNeeded (needed x.attribute q) y.boxes

-- What is told beside a reply: nothing where the area stands as `prepare` leaves it; otherwise why it could not be
-- prepared; and too few boxes have changed nothing.
abbrev pub IsTold : Query → AreaState → AreaState → Option Refusal → Type 0
IsTold q x y None = IsNotedFor q x y.tape × ((from : ℕ) × (upto : ℕ) × IsPreparedFor q y from upto)
IsTold q x y (Some e) =
    IsPartlyNoted q x y.tape × IsWhyUnprepared q x y e × IsHindered q x y e
    × (HasTooFew x q → (e ≡ no_blank x q) × (y ≡ x))
