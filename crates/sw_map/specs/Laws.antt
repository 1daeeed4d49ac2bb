-- Laws of maps that replay the tape of an area.
use Rattle.std.specs.Prelude.{◌≡◌, ◌≤◌, ℕ, List, ◌++◌, length, map, true, Some}
use Rattle.std.specs.List.{slice_get}
use Rattle.sw_query.specs.declared.bound.Bound.{Bound}
use Rattle.sw_table.specs.declared.row.Row.{Row}
use Rattle.sw_query.specs.Scan.{cell_of}
use Rattle.sw_kernel.specs.Arrangement.{joined}
use Rattle.sw_kernel.specs.Replay.{Step}
use Rattle.sw_kernel.specs.Tapes.{IsSound, IsTape, is_marked, peak_from}
use Rattle.sw_map.specs.declared.tail.Tail.{Tail}
use Rattle.sw_map.specs.Held.{Held, MayReplay, after, begun, pair_in, pairs_in, place_of}
use Rattle.sw_map.specs.Lawful.{IsAligned, IsLawful, rows_by}

-- a map that was begun is aligned with every tape, before its first entry
abbrev pub BegunLaw : Type 0
BegunLaw = (a : ℕ) (tape : List (Step Row)) (tail : Tail) (cells : ℕ) → IsAligned a tape (begun a tail cells)

-- an aligned map that replays the entry at its cursor is aligned
abbrev pub StepLaw : Type 0
StepLaw =
    (a : ℕ) (tape : List (Step Row)) (m : Held) (e : Step Row) →
    slice_get tape m.cursor ≡ Some e → IsAligned a tape m → IsAligned a tape (after e m)

-- a lawful map is lawful when the tape grows
abbrev pub LongerLaw : Type 0
LongerLaw = (a : ℕ) (tape es : List (Step Row)) (m : Held) → IsLawful a tape m → IsLawful a (tape ++ es) m

-- the entry at its cursor is one that an aligned map may replay, and needs no more room than the tape's peak
abbrev pub NextLaw : Type 0
NextLaw =
    (a : ℕ) (tape : List (Step Row)) (m : Held) (e : Step Row) →
    IsTape tape → slice_get tape m.cursor ≡ Some e → IsAligned a tape m →
    MayReplay m e × (pairs_in (after e m) ≤ peak_from 0 tape)

-- at the tape's end an aligned map has, place by place, the pairs of the tape's rows,
-- and it has the places of their bounds
abbrev pub ReadyLaw : Type 0
ReadyLaw =
    (a : ℕ) (tape : List (Step Row)) (m : Held) → IsAligned a tape m → m.cursor ≡ length tape →
    (joined m.pairs ≡ map (pair_in a m.tail) (joined (rows_by a tape)))
    × ((b : Bound) → place_of b m.pairs ≡ place_of b (rows_by a tape))

-- a bound that stands in a range of the tape has a place, at most the number of rows: the rows before it are left of
-- the bound, the others are not
abbrev pub PlaceLaw : Type 0
PlaceLaw =
    (a : ℕ) (tape : List (Step Row)) (b : Bound) → IsTape tape → is_marked b tape ≡ true →
    (n : ℕ) × (place_of b (rows_by a tape) ≡ Some n) × (n ≤ length (joined (rows_by a tape)))
    × IsSound (cell_of a) (joined (rows_by a tape)) (record { bound = b; at = n })
