-- What merging makes of an area, update by update or by one load of all that waits.
use Rattle.std.specs.Prelude.{◌≡◌, ◌<◌, ◌≤◌, ◌+◌, ◌⊎◌, ℕ, suc, false, List, [], ◌∷◌, ◌++◌, length, take, drop, slice_index_or, All, Any, Result, MatchResult}
use Rattle.sw_table.specs.declared.row.Row.{Row}
use Rattle.sw_table.specs.declared.row.Update.{Update}
use Rattle.sw_table.specs.declared.row.Update.TheVariants as update
use Rattle.sw_query.specs.declared.refusal.Refusal.{Refusal}
use Rattle.sw_query.specs.declared.refusal.Refusal.TheVariants.{NoMemory}
use Rattle.sw_query.specs.Outcomes.{IsRefused}
use Rattle.sw_table.specs.Updates.{without}
use Rattle.sw_kernel.specs.Replay.{Step, loaded, inserted, removed}
use Rattle.sw_kernel.specs.Tapes.{peak_from}
use Rattle.sw_map.specs.declared.tail.Tail.TheVariants.{Key}
use Rattle.sw_map.specs.Held.{Held, blank}
use Rattle.sw_tape.specs.declared.tape.TheConstants.{MAX_ENTRIES}
use Rattle.sw_set.specs.declared.merge.TheConstants.{MOST_REMOVALS_MERGED}
use Rattle.sw_set.specs.Shelf.{AreaState, BringsNoMore, arranged_rows, rows_in, tape_rows}
use Rattle.sw_set.specs.Aligned.{AreSameMaps}
use Rattle.sw_set.specs.Prepared.{IsReady}
use Rattle.sw_set.specs.Sought.{HoldsMap}

-- the area but for its tape and what its boxes hold
pub record IsSameShell (x y : AreaState) : Type 0 where
  pub attribute : y.attribute ≡ x.attribute
  pub from : y.from ≡ x.from
  pub below : y.below ≡ x.below
  pub inbox : y.inbox ≡ x.inbox
  pub spare : y.spare ≡ x.spare
  pub many : length y.boxes ≡ length x.boxes

-- the tape is one load of these rows, and all boxes are blank
pub record IsBegunAnew (rows : List Row) (y : AreaState) : Type 0 where
  pub tape : y.tape ≡ loaded rows ∷ []
  pub boxes : All (λ m. m ≡ blank) y.boxes

-- A row comes: it is one entry more. Where the tape is full, the area is begun anew with it.
pub record IsInserted (r : Row) (x y : AreaState) : Type 0 where
  pub logged : length x.tape < MAX_ENTRIES → (y.tape ≡ x.tape ++ inserted r ∷ []) × (y.boxes ≡ x.boxes)
  pub restarted : length x.tape ≡ MAX_ENTRIES → IsBegunAnew (tape_rows x ++ r ∷ []) y

-- A row goes: the place of its pair at the tape's end is one entry more, and a key
-- map has replayed what was there before.
pub record IsRemovalLogged (key : ℕ) (x y : AreaState) : Type 0 where
  pub place : ℕ
  pub tape : y.tape ≡ x.tape ++ removed place ∷ []
  pub within : place < length (arranged_rows x)
  pub own : (d : Row) → (slice_index_or (arranged_rows x) place d).key ≡ key
  pub maps : AreSameMaps x.boxes y.boxes
  pub keys : Any (IsReady Key x.tape) y.boxes

-- no key map has room for the tape's peak
abbrev pub LacksKeys : AreaState → Type 0
LacksKeys x = All (λ m. HoldsMap Key m → m.cells < peak_from 0 x.tape) x.boxes

-- a key map that has room, and entries of the tape to replay
pub record IsBehind (tape : List (Step Row)) (m : Held) : Type 0 where
  pub begun : m.is_blank ≡ false
  pub tail_is : m.tail ≡ Key
  pub room : peak_from 0 tape ≤ m.cells
  pub behind : m.cursor < length tape

-- there is one, and a step over the tape was refused; S says what is known of that
abbrev pub HaveKeysStalled : (List (Step Row) → Type 0) → AreaState → Type 0
HaveKeysStalled S x = Any (IsBehind x.tape) x.boxes × S x.tape

-- no key map can tell the place of a pair at the tape's end
abbrev pub CannotTell : (List (Step Row) → Type 0) → AreaState → Type 0
CannotTell S x = LacksKeys x ⊎ HaveKeysStalled S x

-- An update must have the area begun anew: the tape is full, or a row goes and no key map can tell its place.
abbrev pub MustBegin : (List (Step Row) → Type 0) → Update → AreaState → Type 0
MustBegin S (update.Insert r) x = length x.tape ≡ MAX_ENTRIES
MustBegin S (update.Remove key) x = (length x.tape ≡ MAX_ENTRIES) ⊎ CannotTell S x

-- A row goes: it is logged, or, where it must, the area is begun anew without the row.
abbrev pub IsRemoved : (List (Step Row) → Type 0) → ℕ → AreaState → AreaState → Type 0
IsRemoved S key x y =
    ((length x.tape < MAX_ENTRIES) × IsRemovalLogged key x y)
    ⊎ (MustBegin S (update.Remove key) x × IsBegunAnew (without key (tape_rows x)) y)

abbrev pub IsMerged : (List (Step Row) → Type 0) → Update → AreaState → AreaState → Type 0
IsMerged S (update.Insert r) x y = IsInserted r x y
IsMerged S (update.Remove key) x y = IsRemoved S key x y

-- one after the other
abbrev pub AreMerged : (List (Step Row) → Type 0) → List Update → AreaState → AreaState → Type 0
AreMerged S [] x y = y ≡ x
AreMerged S (u ∷ us) x y = (z : AreaState) × IsSameShell x z × IsMerged S u x z × AreMerged S us z y

-- the area when what waits is taken out
abbrev pub without_inbox : AreaState → AreaState
without_inbox x = record x { inbox = []; spare = 0 }

-- the area with an empty inbox, which takes so many updates without memory
abbrev pub drained : ℕ → AreaState → AreaState
drained spare x = record x { inbox = []; spare = spare }

-- all that waited is merged
abbrev pub IsAllMerged : (List (Step Row) → Type 0) → AreaState → AreaState → Type 0
IsAllMerged S x y = (z : AreaState) × AreMerged S x.inbox (without_inbox x) z × (y ≡ drained (x.spare + length x.inbox) z)

-- a beginning of it is merged, and the rest waits; a map may have gone further
pub record IsPartlyMerged (S : List (Step Row) → Type 0) (x y : AreaState) : Type 0 where
  pub many : ℕ
  pub few : many < length x.inbox
  pub inbox : y.inbox ≡ drop many x.inbox
  pub spare : y.spare ≡ x.spare + many
  pub last : AreaState
  pub merged : AreMerged S (take many x.inbox) (without_inbox x) last
  pub tape : y.tape ≡ last.tape
  pub maps : AreSameMaps last.boxes y.boxes

-- all is merged; or there was no memory for more than a beginning
abbrev pub HasMergedOr : {A : Type 0} → (List (Step Row) → Type 0) → Result A Refusal → AreaState → AreaState → Type 0
HasMergedOr S r x y = MatchResult r (λ _. IsAllMerged S x y) (λ e. (e ≡ NoMemory) × IsPartlyMerged S x y)

-- by how many of the updates a row goes
unfoldable pub removals_in : List Update → ℕ
removals_in [] = 0
removals_in (update.Insert r ∷ us) = removals_in us
removals_in (update.Remove key ∷ us) = suc (removals_in us)

-- more removals wait than are merged one by one: one load takes up all that waits
abbrev pub MergesByOneLoad : AreaState → Type 0
MergesByOneLoad x = MOST_REMOVALS_MERGED < removals_in x.inbox

-- the area is begun anew with all that waited
pub record IsBegunWithInbox (x y : AreaState) : Type 0 where
  pub shell : IsSameShell (drained (x.spare + length x.inbox) x) y
  pub begun : IsBegunAnew (rows_in x) y

-- it is; or there was no memory, and nothing has changed
abbrev pub HasBegunWithInboxOr : {A : Type 0} → Result A Refusal → AreaState → AreaState → Type 0
HasBegunWithInboxOr r x y = MatchResult r (λ _. IsBegunWithInbox x y) (IsRefused x y)

-- the area but for its boxes, its tape and what waits; it stands for the same rows
pub record StandsForSame (x y : AreaState) : Type 0 where
  pub attribute : y.attribute ≡ x.attribute
  pub from : y.from ≡ x.from
  pub below : y.below ≡ x.below
  pub rows : rows_in y ≡ rows_in x
  pub many : length y.boxes ≡ length x.boxes
  pub brings : BringsNoMore x y
