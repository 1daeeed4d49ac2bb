-- How far maps stand along a tape, and what stepping makes of them.
use Rattle.std.specs.Prelude.{◌≡◌, ◌<◌, ◌≤◌, ℕ, Bool, true, false, List, length, slice_index_or, All, Contains}
use Rattle.sw_table.specs.declared.row.Row.{Row}
use Rattle.sw_kernel.specs.Replay.{Step}
use Rattle.sw_kernel.specs.Tapes.{peak_from}
use Rattle.sw_map.specs.declared.tail.Tail.{Tail}
use Rattle.sw_map.specs.Held.{Held, KeysFit, after}
use Rattle.sw_map.specs.Lawful.{IsLawful}

-- the same map, at perhaps another cursor
pub record IsSameMap (m n : Held) : Type 0 where
  pub blank : n.is_blank ≡ m.is_blank
  pub tail : n.tail ≡ m.tail
  pub cells : n.cells ≡ m.cells

-- the boxes hold the same maps, place by place
pub record AreSameMaps (ms ns : List Held) : Type 0 where
  pub many : length ns ≡ length ms
  pub each : (k : ℕ) (d e : Held) → k < length ms → IsSameMap (slice_index_or ms k d) (slice_index_or ns k e)

-- a map with one of the tails, and then it stands at the tape's end
unfoldable pub IsAtEnd : List Tail → List (Step Row) → Held → Type 0
IsAtEnd tails tape m = m.is_blank ≡ false → Contains tails m.tail → m.cursor ≡ length tape

-- a map with one of the tails has room for the tape after each of its entries
unfoldable pub HasRoomWhereNeeded : List Tail → List (Step Row) → Held → Type 0
HasRoomWhereNeeded tails tape m = m.is_blank ≡ false → Contains tails m.tail → peak_from 0 tape ≤ m.cells

-- the map is lawful, it has room where it is needed, and the tape's keys fit
abbrev pub MayBeAligned : ℕ → List (Step Row) → List Tail → Held → Type 0
MayBeAligned a tape tails m =
    IsLawful a tape m × All (λ (e : Step Row). KeysFit e) tape × HasRoomWhereNeeded tails tape m

-- the same map, which is lawful, at perhaps another cursor
abbrev pub IsSteppedFrom : ℕ → List (Step Row) → Held → Held → Type 0
IsSteppedFrom a tape m n = IsLawful a tape n × IsSameMap m n

-- a map m replayed an entry, where it is said so; otherwise it is as it was
abbrev pub HasSteppedIf : Bool → Step Row → Held → Held → Type 0
HasSteppedIf true e m n = n ≡ after e m
HasSteppedIf false e m n = n ≡ m

-- a map was refused a step over an entry of the tape; what is known of that each kind of map says
abbrev pub IsStalled : {M : Type 0} → (M → Step Row → Type 0) → List (Step Row) → Type 0
IsStalled {M} stalls tape = (m : M) × (e : Step Row) × Contains tape e × stalls m e

-- place by place the items hold the same maps, at perhaps other cursors
abbrev pub KeepMaps : {X : Type 0} → (X → Held) → List X → List X → Type 0
KeepMaps {X} held xs ys =
    (k : ℕ) (d : X) → k < length xs → IsSameMap (held (slice_index_or xs k d)) (held (slice_index_or ys k d))
