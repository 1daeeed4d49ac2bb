-- What a function does that aligns boxes.
use Rattle.std.specs.Prelude.{◌<◌, ℕ, List, Result, All, map}
use denote.Ref.{Bor, MutBor}
use denote.Param.Members.{Shared}
use Rattle.sw_table.specs.declared.row.Row.{Row}
use Rattle.sw_query.specs.declared.refusal.Refusal.{Refusal}
use Rattle.sw_query.specs.Outcomes.{MemoryAside}
use Rattle.sw_kernel.specs.Replay.{Step}
use Rattle.sw_map.specs.declared.tail.Tail.{Tail}
use Rattle.sw_map.specs.Held.{Held, KeysFit}
use Rattle.sw_map.specs.Lawful.{IsLawful}
use Rattle.sw_set.specs.Aligned.{AreSameMaps, HasRoomWhereNeeded, IsAtEnd}

-- boxes may be aligned: their maps are lawful, the tape's keys fit, and the maps that are needed have room for the tape
abbrev pub MayAlign : {M : Type 0} → (M → Held) → ℕ → List Tail → List (Step Row) → List M → Type 0
MayAlign {M} held a tails tape ms =
    All (λ m. IsLawful a tape (held m)) ms
    × All (λ (e : Step Row). KeysFit e) tape
    × All (λ m. HasRoomWhereNeeded tails tape (held m)) ms

-- The boxes hold the same maps, which are lawful, and those that are needed stand at the tape's end; or there was no
-- memory.
pub record HasAlignedOr {A M : Type 0} (r : Result A Refusal) (held : M → Held) (a : ℕ) (tails : List Tail) (tape : List (Step Row)) (ms ns : List M) : Type 0 where
  pub lawful : All (IsLawful a tape) (map held ns)
  pub same : AreSameMaps (map held ms) (map held ns)
  pub ends : MemoryAside r (λ _. All (IsAtEnd tails tape) (map held ns))

-- a function may be called with boxes that may be aligned, and aligns them
abbrev pub AlignsBoxes :
    {F M : Type 0} → Shared F (ℕ × (MutBor (List M) × (Bor (List Tail) × (Bor (List (Step Row)) × Unit {0})))) (Result (Unit {0}) Refusal × (MutBor (List M) × Unit {0})) → F → (M → Held) → Type 0
AlignsBoxes {F} {M} g f held =
    (a : ℕ) (p : MutBor (List M)) (t : Bor (List Tail)) (e : Bor (List (Step Row))) → a < 256 →
    MayAlign held a t.now e.now p.now →
    g.pre f (a, (p, (t, (e, tt))))
    × ((r : Result (Unit {0}) Refusal) (q : MutBor (List M)) → g.post f (a, (p, (t, (e, tt)))) (r, (q, tt)) →
    HasAlignedOr r held a t.now e.now p.now q.now)
