-- What came of a call on an area, where it was done and where it was refused.
use Rattle.std.specs.Prelude.{◌≡◌, ◌≤◌, ◌+◌, ℕ, List, [], ◌∷◌, ◌++◌, length, Result, MatchResult, vec_capacity, vec_len}
use Rattle.std.specs.Global.{Vec}
use Rattle.sw_table.specs.declared.row.Row.{Row}
use Rattle.sw_table.specs.declared.row.Update.{Update}
use Rattle.sw_query.specs.declared.refusal.Refusal.{Refusal}
use Rattle.sw_query.specs.declared.refusal.Refusal.TheVariants.{NoMemory}
use Rattle.sw_query.specs.Outcomes.{IsRefused}
use Rattle.sw_kernel.specs.Replay.{Step, loaded}
use Rattle.sw_tape.specs.Restart.{first_rows}
use Rattle.sw_map.specs.declared.tail.Tail.{Tail}
use Rattle.sw_map.specs.Held.{blank, begun}
use Rattle.sw_map.specs.Refusals.{IsBeginRefusal}
use Rattle.sw_set.specs.Live.{Standing, live_among}
use Rattle.sw_set.specs.Merged.{IsBegunAnew, IsSameShell}
use Rattle.sw_set.specs.Shelf.{AreaState, tape_rows, with_box}

-- ---- boxes

-- a blank box came behind the others; or there was no memory, nothing has changed, and that box comes back
abbrev pub IsSuppliedOr : {A M : Type 0} → Result A (M × Refusal) → M → AreaState → AreaState → Type 0
IsSuppliedOr r it x y =
    MatchResult r
    (λ _. y ≡ record x { boxes = x.boxes ++ blank ∷ [] })
    (λ back. (y ≡ x) × (back.0 ≡ it) × (back.1 ≡ NoMemory))

-- a map was begun in the box at a place; or it was refused, and the box is blank
abbrev pub HasMadeAt : {A : Type 0} → Result A Refusal → ℕ → Tail → ℕ → AreaState → AreaState → Type 0
HasMadeAt r at tail cells x y =
    MatchResult r
    (λ _. y ≡ with_box at (begun x.attribute tail cells) x)
    (λ e. (y ≡ with_box at blank x) × IsBeginRefusal cells e)

-- ---- the tape

-- there is one entry more; or there was no memory, and nothing has changed
abbrev pub HasLoggedOr : {A : Type 0} → Result A Refusal → Step Row → AreaState → AreaState → Type 0
HasLoggedOr r e x y = MatchResult r (λ _. y ≡ record x { tape = x.tape ++ e ∷ [] }) (IsRefused x y)

-- of the rows of an area's load and of later ones those that are live
abbrev pub rows_standing : Standing → AreaState → List Row
rows_standing live x = live_among (first_rows x.tape) live

-- the area is begun anew with these rows; or there was no memory, and nothing has changed
abbrev pub HasBegunAnewOr : {A : Type 0} → Result A Refusal → List Row → AreaState → AreaState → Type 0
HasBegunAnewOr r rows x y = MatchResult r (λ _. IsSameShell x y × IsBegunAnew rows y) (IsRefused x y)

-- the tape is one load of the rows that it had; or there was no memory, and nothing has changed
abbrev pub HasRestartedOr : {A : Type 0} → Result A Refusal → AreaState → AreaState → Type 0
HasRestartedOr r x y = MatchResult r (λ _. y.tape ≡ loaded (tape_rows x) ∷ []) (IsRefused x y)

-- ---- the inbox

-- so many more go in without memory, and no fewer than before; or there was no memory, and as many go in as before
abbrev pub HasMadeRoomOr : {A : Type 0} → Result A Refusal → ℕ → ℕ → ℕ → Type 0
HasMadeRoomOr r more old new = MatchResult r (λ _. (more ≤ new) × (old ≤ new)) (IsRefused old new)

-- updates wait behind the others, and no more room is gone than they take
abbrev pub CameToWait : List Update → AreaState → AreaState → Type 0
CameToWait us x y =
    (y ≡ record x { inbox = x.inbox ++ us; spare = y.spare }) × (x.spare ≤ y.spare + length us)

-- they do; or there was no memory, and nothing has changed
abbrev pub CameToWaitOr : {A : Type 0} → Result A Refusal → List Update → AreaState → AreaState → Type 0
CameToWaitOr r us x y = MatchResult r (λ _. CameToWait us x y) (IsRefused x y)

-- items stand behind others; or the others are as they were
abbrev pub AreAppendedOr : {A X : Type 0} → Result A Refusal → List X → List X → List X → Type 0
AreAppendedOr r more old new = MatchResult r (λ _. new ≡ old ++ more) (λ _. new ≡ old)

-- a list is longer by so many, and has room for no fewer; or there was no memory, and both are as they were
abbrev pub IsLongerOr : {A X : Type 0} → Result A Refusal → ℕ → Vec X → Vec X → Type 0
IsLongerOr r more old new =
    MatchResult r
    (λ _. (vec_len new ≡ vec_len old + more) × (vec_capacity old ≤ vec_capacity new))
    (λ e. (vec_len new ≡ vec_len old) × (vec_capacity new ≡ vec_capacity old) × (e ≡ NoMemory))
