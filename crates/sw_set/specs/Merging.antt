-- Merging on its way: one update, and a list of them up to a place.
use Rattle.std.specs.Prelude.{◌≡◌, ◌<◌, ◌≤◌, ◌+◌, ◌-◌, ℕ, List, ◌∷◌, [], ◌++◌, fold, length, take, drop, get_or, All, Bool, cond, Option, MatchOption, Result, MatchResult}
use Rattle.sw_table.specs.declared.row.Row.{Row}
use Rattle.sw_table.specs.declared.row.Update.{Update}
use Rattle.sw_table.specs.declared.row.Update.TheVariants as update
use Rattle.sw_query.specs.declared.refusal.Refusal.{Refusal}
use Rattle.sw_query.specs.declared.refusal.Refusal.TheVariants.{NoMemory}
use Rattle.sw_kernel.specs.Replay.{Step, inserted}
use Rattle.sw_kernel.specs.Tapes.{brought}
use Rattle.sw_map.specs.declared.tail.Tail.TheVariants.{Key}
use Rattle.sw_tape.specs.declared.tape.TheConstants.{MAX_ENTRIES}
use Rattle.sw_set.specs.Shelf.{AreaState, MayMergeAll, came_then, rows_left_by, tape_rows}
use Rattle.sw_set.specs.Aligned.{AreSameMaps}
use Rattle.sw_set.specs.Merged.{AreMerged, CannotTell, IsBegunAnew, IsRemovalLogged, IsSameShell, MustBegin}
use Rattle.sw_set.specs.Prepared.{IsReady}
use Rattle.sw_set.specs.Sought.{IsAt}

-- an update is logged: the tape has one entry more
abbrev pub IsLogged : Update → AreaState → AreaState → Type 0
IsLogged (update.Insert r) x y =
    (length x.tape < MAX_ENTRIES) × (y.tape ≡ x.tape ++ inserted r ∷ []) × (y.boxes ≡ x.boxes)
IsLogged (update.Remove key) x y = (length x.tape < MAX_ENTRIES) × IsRemovalLogged key x y

-- the area but for how far its maps have gone
pub record IsSameTape (x y : AreaState) : Type 0 where
  pub shell : IsSameShell x y
  pub tape : y.tape ≡ x.tape
  pub maps : AreSameMaps x.boxes y.boxes

-- a box is found whose key map stands at the tape's end; none where no key map could tell a place; S says what is known of
-- a refused step
abbrev pub HasKeysOr : (List (Step Row) → Type 0) → AreaState → AreaState → Option ℕ → Type 0
HasKeysOr S x y found = MatchOption found (CannotTell S x) (IsAt (IsReady Key y.tape) y.boxes)

-- as is told, an update is logged, or it must have the area begun anew
abbrev pub IsLoggedIf : (List (Step Row) → Type 0) → Bool → Update → AreaState → AreaState → Type 0
IsLoggedIf S logged u x y = cond logged (IsLogged u x y) (MustBegin S u x × IsSameTape x y)

-- memory was refused, and a map may have gone further
abbrev pub IsSameTapeRefused : AreaState → AreaState → Refusal → Type 0
IsSameTapeRefused x y e = (e ≡ NoMemory) × IsSameTape x y

-- It is told whether an update was logged; where not, it must have the area begun anew. Or memory was refused.
pub record IsLoggedOrNot (S : List (Step Row) → Type 0) (u : Update) (x y : AreaState) (told : Result Bool Refusal) : Type 0 where
  pub shell : IsSameShell x y
  pub ends : MatchResult told (λ logged. IsLoggedIf S logged u x y) (IsSameTapeRefused x y)

-- whether a row goes
abbrev pub IsRemoval : Update → Type 0
IsRemoval (update.Insert r) = ⊥
IsRemoval (update.Remove key) = Unit {0}

-- The updates from the one place up to the other are for one load: at least one, and
-- all up to the last by which a row goes.
pub record IsStretch (us : List Update) (at upto : ℕ) : Type 0 where
  pub more : at < upto
  pub within : upto ≤ length us
  pub last : at + 1 < upto → (d : Update) → IsRemoval (get_or us (upto - 1) d)
  pub rest : (k : ℕ) (d : Update) → upto ≤ k → k < length us → IsRemoval (get_or us k d) → ⊥

-- each number that exceeds the keys of the rows that come to the tape of x by these
-- updates exceeds those of the tape of y
abbrev pub HasBroughtNoMore : List Update → AreaState → AreaState → Type 0
HasBroughtNoMore us x y =
    (n : ℕ) → All (λ (r : Row). r.key < n) (fold came_then (brought x.tape) us) →
    All (λ (r : Row). r.key < n) (brought y.tape)

-- So many of these updates are merged: the live rows are those after them, no more came, and the rest may be received.
pub record IsMergedUpTo (S : List (Step Row) → Type 0) (us : List Update) (many : ℕ) (x y : AreaState) : Type 0 where
  pub few : many ≤ length us
  pub shell : IsSameShell x y
  pub merged : AreMerged S (take many us) x y
  pub rows : tape_rows y ≡ rows_left_by (take many us) x
  pub came : HasBroughtNoMore (take many us) x y
  pub receivable : MayMergeAll (drop many us) y

-- and no more of them, but a map may have gone further
pub record IsStoppedAt (S : List (Step Row) → Type 0) (us : List Update) (many : ℕ) (x y : AreaState) : Type 0 where
  pub few : many < length us
  pub shell : IsSameShell x y
  pub last : AreaState
  pub upto : IsMergedUpTo S us many x last
  pub tape : y.tape ≡ last.tape
  pub maps : AreSameMaps last.boxes y.boxes

-- The updates from the one place up to the other are merged, whatever was merged before them.
abbrev pub GoesOn : (List (Step Row) → Type 0) → List Update → ℕ → ℕ → AreaState → AreaState → Type 0
GoesOn S us at upto x y = (first : AreaState) → IsMergedUpTo S us at first x → IsMergedUpTo S us upto first y

-- ---- what came of it

-- The area is begun anew with the updates of a stretch, and where it ends is answered; or there was no memory, and
-- nothing has changed.
abbrev pub HasBegunWithOr : Result ℕ Refusal → List Update → ℕ → AreaState → AreaState → Type 0
HasBegunWithOr r us at x y =
    MatchResult r
    (λ upto. IsStretch us at upto × IsBegunAnew (rows_left_by (take (upto - at) (drop at us)) x) y)
    (λ e. (e ≡ NoMemory) × (y ≡ x))

-- the updates from a place up to the answered one are merged, at least one; or there was no memory for it
abbrev pub HasMergedFromOr : (List (Step Row) → Type 0) → Result ℕ Refusal → List Update → ℕ → AreaState → AreaState → Type 0
HasMergedFromOr S r us at x y =
    MatchResult r (λ upto. (at < upto) × (upto ≤ length us) × GoesOn S us at upto x y) (IsSameTapeRefused x y)

-- all of the updates are merged; or as many as is answered
abbrev pub HasMergedEachOr : {A : Type 0} → (List (Step Row) → Type 0) → Result A ℕ → List Update → AreaState → AreaState → Type 0
HasMergedEachOr S r us x y =
    MatchResult r (λ _. IsMergedUpTo S us (length us) x y) (λ many. IsStoppedAt S us many x y)
