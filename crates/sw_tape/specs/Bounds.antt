-- Where a bound's place is in a rising list of bounds, and which of them are nearest around a value.
use Rattle.std.specs.Prelude.{◌≡◌, ℕ, ℤ, Bool, true, false, ◌||◌, zero, suc, List, [], ◌∷◌, length, ◌+◌, Option, None, Some}
use Rattle.sw_query.specs.declared.bound.Bound.{Bound}
use Rattle.sw_table.specs.declared.row.Row.{Row}
use Rattle.sw_kernel.specs.Replay.{Step}
use Rattle.sw_kernel.specs.Tapes.{IsRising, is_bound, is_marked, ranges_at}
use Rattle.sw_query.specs.Bounds.{bound_below, is_left, same_bound}

-- whether a bound is among these
abbrev pub is_among : Bound → List Bound → Bool
is_among b [] = false
is_among b (c ∷ cs) = same_bound b c || is_among b cs

-- whether a bound is the first of these
abbrev pub is_first : Bound → List Bound → Bool
is_first b [] = false
is_first b (c ∷ cs) = same_bound b c

-- just the bounds before this place are below b
abbrev pub IsPlaceOf : Bound → ℕ → List Bound → Type 0
IsPlaceOf b zero [] = Unit {0}
IsPlaceOf b zero (c ∷ cs) = bound_below c b ≡ false
IsPlaceOf b (suc k) [] = ⊥
IsPlaceOf b (suc k) (c ∷ cs) = (bound_below c b ≡ true) × IsPlaceOf b k cs

-- just the bounds before this place do not have the value on their left
abbrev pub IsSplit : ℤ → ℕ → List Bound → Type 0
IsSplit v zero [] = Unit {0}
IsSplit v zero (c ∷ cs) = is_left c v ≡ true
IsSplit v (suc k) [] = ⊥
IsSplit v (suc k) (c ∷ cs) = (is_left c v ≡ false) × IsSplit v k cs

-- of the bounds that pass the test and do not have the value on their left, the greatest; no bound where there is none
abbrev pub IsNearestBelow : (Bound → Bool) → ℤ → Option Bound → Type 0
IsNearestBelow there v None = (b : Bound) → there b ≡ true → is_left b v ≡ true
IsNearestBelow there v (Some c) =
    (there c ≡ true) × (is_left c v ≡ false)
    × ((b : Bound) → there b ≡ true → is_left b v ≡ false → bound_below c b ≡ false)

-- of the bounds that pass the test and have the value on their left, the least; no bound where there is none
abbrev pub IsNearestAbove : (Bound → Bool) → ℤ → Option Bound → Type 0
IsNearestAbove there v None = (b : Bound) → there b ≡ true → is_left b v ≡ false
IsNearestAbove there v (Some c) =
    (there c ≡ true) × (is_left c v ≡ true)
    × ((b : Bound) → there b ≡ true → is_left b v ≡ true → bound_below b c ≡ false)

-- two bounds, as far as there are any, came to others
abbrev pub AddsBoth : Option Bound → Option Bound → List Bound → List Bound → Type 0
AddsBoth lower upper old new = (b : Bound) → is_among b new ≡ (is_bound b lower || is_bound b upper) || is_among b old

-- the bounds of a step came to others
abbrev pub AreJoinedBy : Step Row → List Bound → List Bound → Type 0
AreJoinedBy e old new = (b : Bound) → is_among b new ≡ ranges_at b e || is_among b old

-- so many pieces: one more than the bounds that stand in ranges of a tape, which a rising list has each once
abbrev pub HasPieces : ℕ → List (Step Row) → Type 0
HasPieces n tape =
    (bs : List Bound) × IsRising bs × ((b : Bound) → is_among b bs ≡ is_marked b tape) × (n ≡ length bs + 1)
