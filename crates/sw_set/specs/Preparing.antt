-- What came of preparing: of logging the range, of making the maps, and of both.
use Rattle.std.specs.Prelude.{◌≡◌, ◌<◌, ◌⊎◌, ℕ, List, length, Option, Result, MatchResult, All, Contains}
use Rattle.sw_query.specs.declared.bound.Bound.{Bound}
use Rattle.sw_query.specs.declared.query.Query.{Query}
use Rattle.sw_query.specs.declared.refusal.Refusal.{Refusal}
use Rattle.sw_query.specs.declared.refusal.Refusal.TheVariants.{NoBlank, NoMemory}
use Rattle.sw_kernel.specs.Tapes.{peak_from}
use Rattle.sw_map.specs.declared.tail.Tail.{Tail}
use Rattle.sw_map.specs.Held.{Held}
use Rattle.sw_map.specs.Refusals.{IsBeginRefusal}
use Rattle.sw_set.specs.declared.area.ready.Ready.{Ready}
use Rattle.sw_set.specs.Prepared.{IsBegunFor, IsNoted, IsNotedFor, IsPartlyNoted, IsPrepareRefusal, IsPrepared, IsPreparedFor, IsWhyUnprepared, cells_for}
use Rattle.sw_set.specs.Boxed.{IsFree, IsHeld}
use Rattle.sw_set.specs.Shelf.{AreaState, tape_rows}
use Rattle.sw_set.specs.Sought.{IsAt}

-- ---- the range

-- the tape of x is noted with a range
abbrev pub HasNoted : Option Bound → Option Bound → AreaState → AreaState → Type 0
HasNoted lower upper x y = IsNoted lower upper (tape_rows x) x.tape y.tape

-- it was full, and is begun anew for the range
abbrev pub HasBegunFor : Option Bound → Option Bound → AreaState → AreaState → Type 0
HasBegunFor lower upper x y = IsBegunFor lower upper (tape_rows x) x.tape y.tape

-- the range is noted; or there was no memory, and the tape is as it was, or begun anew for the range
abbrev pub HasNotedOr : {A : Type 0} → Result A Refusal → Option Bound → Option Bound → AreaState → AreaState → Type 0
HasNotedOr r lower upper x y =
    MatchResult r
    (λ _. HasNoted lower upper x y)
    (λ e. (e ≡ NoMemory) × ((y.tape ≡ x.tape) ⊎ HasBegunFor lower upper x y))

-- ---- the maps

-- the boxes have a map of the tail with so many cells; or it could not begin
abbrev pub HasMapOr : {A : Type 0} → Result A Refusal → Tail → ℕ → List Held → Type 0
HasMapOr r tail cells ms = MatchResult r (λ _. IsHeld tail cells ms) (IsBeginRefusal cells)

-- a place of a box that may be taken; or the boxes are fewer than the tails, and both numbers are told
abbrev pub HasFreeOr : Result ℕ Refusal → List Tail → List Held → Type 0
HasFreeOr r tails ms =
    MatchResult r
    (IsAt (IsFree tails) ms)
    (λ e. (e ≡ NoBlank (length ms) (length tails)) × (length ms < length tails))

-- each of these maps that is there stays
abbrev pub StayHeld : List Tail → ℕ → List Held → List Held → Type 0
StayHeld tails cells ms ns = (u : Tail) → Contains tails u → IsHeld u cells ms → IsHeld u cells ns

-- there is a map of the tail, and those of the tails that were there stay; or it was refused
abbrev pub HasOneMoreOr : {A : Type 0} → Result A Refusal → List Tail → Tail → ℕ → List Held → List Held → Type 0
HasOneMoreOr r tails tail cells ms ns =
    MatchResult r
    (λ _. IsHeld tail cells ns × StayHeld tails cells ms ns)
    (IsPrepareRefusal (length ms) (length tails) cells)

-- there is a map of each of the tails; or it was refused
abbrev pub HaveMapsOr : {A : Type 0} → Result A Refusal → List Tail → ℕ → List Held → List Held → Type 0
HaveMapsOr r tails cells ms ns =
    MatchResult r
    (λ _. All (λ (t : Tail). IsHeld t cells ns) tails)
    (IsPrepareRefusal (length ms) (length tails) cells)

-- ---- both

-- how the tape may stand after a refusal: as before, or noted, or begun anew for the range
abbrev pub MayHaveNoted : Option Bound → Option Bound → AreaState → AreaState → Type 0
MayHaveNoted lower upper x y = (y.tape ≡ x.tape) ⊎ (HasNoted lower upper x y ⊎ HasBegunFor lower upper x y)

-- the area is prepared for a range and these tails; or it was refused
abbrev pub HasRangedOr : Result Ready Refusal → Option Bound → Option Bound → List Tail → AreaState → AreaState → Type 0
HasRangedOr r lower upper tails x y =
    MatchResult r
    (λ ready. HasNoted lower upper x y × IsPrepared lower upper tails y ready.from ready.upto)
    (λ e. MayHaveNoted lower upper x y
    × IsPrepareRefusal (length x.boxes) (length tails) (cells_for (peak_from 0 y.tape)) e)

-- the area is prepared for a query; or it was refused
abbrev pub HasPreparedOr : Result Ready Refusal → Query → AreaState → AreaState → Type 0
HasPreparedOr r q x y =
    MatchResult r
    (λ ready. IsNotedFor q x y.tape × IsPreparedFor q y ready.from ready.upto)
    (λ e. IsPartlyNoted q x y.tape × IsWhyUnprepared q x y e)
