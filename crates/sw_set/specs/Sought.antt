-- Which box is looked for among others, and what its map shows.
use Rattle.std.specs.Prelude.{◌≡◌, ◌≢◌, ◌≤◌, ◌<◌, ℕ, ℤ, true, false, List, length, slice_index_or, Option, None, Some, Result, MatchOption, MatchResult, All, Any, Contains}
use Rattle.sw_query.specs.declared.bound.Bound.{Bound}
use Rattle.sw_query.specs.declared.refusal.Refusal.{Refusal}
use Rattle.sw_kernel.specs.Arrangement.{joined}
use Rattle.sw_kernel.specs.Ripple.{origin}
use Rattle.sw_map.specs.declared.tail.Tail.{Tail}
use Rattle.sw_map.specs.declared.tail.Tail.TheVariants.{Key}
use Rattle.sw_map.specs.Held.{Held, pairs_in, place_of}

-- there is an item at a place, and it passes
abbrev pub IsAt : {X : Type 0} → (X → Type 0) → List X → ℕ → Type 0
IsAt {X} P xs at = (at < length xs) × ((d : X) → P (slice_index_or xs at d))

-- a place where one holds is found, unless the other holds of every item
abbrev pub FindsUnless : {X : Type 0} → (X → Type 0) → (X → Type 0) → List X → Option ℕ → Type 0
FindsUnless missing there xs found = MatchOption found (All missing xs) (IsAt there xs)

-- a place of a box is found of which the one holds, by what it holds, unless the other holds of every box
abbrev pub FindsHeld : {M : Type 0} → (M → Held) → (Held → Type 0) → (Held → Type 0) → List M → Option ℕ → Type 0
FindsHeld held missing there ms found = FindsUnless (λ m. missing (held m)) (λ m. there (held m)) ms found

-- a value is told that some item shows, unless the other holds of every item
abbrev pub TellsUnless : {X V : Type 0} → (X → Type 0) → (V → X → Type 0) → List X → Option V → Type 0
TellsUnless missing shows xs told = MatchOption told (All missing xs) (λ v. Any (shows v) xs)

-- a place from the one up to below the other
abbrev pub IsBetween : ℕ → ℕ → ℕ → Type 0
IsBetween from upto at = (from ≤ at) × (at < upto)

-- ---- by its tail

-- the box has a map of the tail
abbrev pub HoldsMap : Tail → Held → Type 0
HoldsMap t m = (m.is_blank ≡ false) × (m.tail ≡ t)

-- it has none
abbrev pub LacksMap : Tail → Held → Type 0
LacksMap t m = m.is_blank ≡ false → m.tail ≢ t

-- the box has a map that the tails need
abbrev pub IsNeeded : List Tail → Held → Type 0
IsNeeded tails m = (m.is_blank ≡ false) × Contains tails m.tail

-- the box has a map that they do not need
abbrev pub IsUnneeded : List Tail → Held → Type 0
IsUnneeded tails m = (m.is_blank ≡ false) × ¬ Contains tails m.tail

-- a map that it has is needed
abbrev pub IsNeededIfMap : List Tail → Held → Type 0
IsNeededIfMap tails m = m.is_blank ≡ false → Contains tails m.tail

-- each map is one that the tails need
abbrev pub AreAllNeeded : List Tail → List Held → Type 0
AreAllNeeded tails ms = All (IsNeededIfMap tails) ms

-- no box has a map
abbrev pub AreAllBlank : List Held → Type 0
AreAllBlank ms = All (λ (m : Held). m.is_blank ≡ true) ms

-- some box has one
abbrev pub HaveSomeMap : List Held → Type 0
HaveSomeMap ms = Any (λ (m : Held). m.is_blank ≡ false) ms

-- ---- what a map of the tail shows

-- the box has a map of the tail, with this cursor
abbrev pub HasCursor : Tail → ℕ → Held → Type 0
HasCursor t n m = (m.is_blank ≡ false) × (m.tail ≡ t) × (n ≡ m.cursor)

-- the tail at a place
abbrev pub shown_at : ℕ → Held → ℤ
shown_at place m = (slice_index_or (joined m.pairs) place origin).1

-- the box has a map of the tail, which shows this at a place
abbrev pub Shows : Tail → ℕ → ℤ → Held → Type 0
Shows t place v m = (m.is_blank ≡ false) × (m.tail ≡ t) × (place < pairs_in m) × (v ≡ shown_at place m)

-- a map of the tail has no pair at a place
abbrev pub EndsBy : Tail → ℕ → Held → Type 0
EndsBy t place m = m.is_blank ≡ false → m.tail ≡ t → pairs_in m ≤ place

-- a key map has cracked at the bound, which stands at this place
abbrev pub IsCrackedAt : Bound → ℕ → Held → Type 0
IsCrackedAt b n m = (m.is_blank ≡ false) × (m.tail ≡ Key) × (place_of b m.pairs ≡ Some n)

-- a key map has not cracked at the bound
abbrev pub IsUncracked : Bound → Held → Type 0
IsUncracked b m = m.is_blank ≡ false → m.tail ≡ Key → place_of b m.pairs ≡ None

-- ---- how far it stands

-- a needed map of the box has replayed so many entries
abbrev pub IsAtCursor : List Tail → ℕ → Held → Type 0
IsAtCursor tails end m = m.is_blank ≡ false → Contains tails m.tail → m.cursor ≡ end

-- that is so of the items from a place on
abbrev pub AllAtCursor : {X : Type 0} → (X → Held) → ℕ → List Tail → ℕ → List X → Type 0
AllAtCursor {X} held from tails end xs =
    (k : ℕ) (d : X) → from ≤ k → k < length xs → IsAtCursor tails end (held (slice_index_or xs k d))

-- the box has a needed map, which lacks entries of a tape of this length
abbrev pub LacksEntries : List Tail → ℕ → Held → Type 0
LacksEntries tails end m = IsNeeded tails m × (m.cursor ≢ end)

-- the place of a box that lacks entries so is found, not before another place; or those from that place on lack none
abbrev pub FindsLacking : {X : Type 0} → (X → Held) → ℕ → List Tail → ℕ → List X → Option ℕ → Type 0
FindsLacking {X} held from tails end xs found =
    MatchOption found (AllAtCursor held from tails end xs)
    (λ k. (from ≤ k) × IsAt (λ (x : X). LacksEntries tails end (held x)) xs k)

-- the map in the box at a place reached the end; or it had entries to replay
abbrev pub HasReachedOr : {A : Type 0} → Result A Refusal → ℕ → ℕ → List Held → List Held → Type 0
HasReachedOr r at end ms ns =
    MatchResult r
    (λ _. (d : Held) → (slice_index_or ns at d).cursor ≡ end)
    (λ _. (d : Held) → (slice_index_or ms at d).cursor < end)
