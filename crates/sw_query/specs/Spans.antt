-- The cells from a least to a greatest one.
use Rattle.std.specs.Prelude.{ℤ, Bool, false, ◌&&◌, ◌≡◌, int_le, FitsSigned, Option, MatchOption}
use Rattle.std.specs.Int.{w64}
use Rattle.sw_query.specs.declared.bound.Bound.{Bound}
use Rattle.sw_query.specs.Bounds.{is_above, is_below, is_within}

-- x is among them
abbrev pub in_span : ℤ → ℤ → ℤ → Bool
in_span low high x = int_le low x && int_le x high

-- it is the least cell that is not left of a lower bound, if there is one; else each is left of it
abbrev pub IsLeastAbove : Option Bound → Option ℤ → Type 0
IsLeastAbove lower least = MatchOption least
    ((x : ℤ) → FitsSigned w64 x → is_above lower x ≡ false)
    (λ low. (x : ℤ) → FitsSigned w64 x → is_above lower x ≡ int_le low x)

-- it is the greatest cell that is left of an upper bound, if there is one; else none is left of it
abbrev pub IsGreatestBelow : Option Bound → Option ℤ → Type 0
IsGreatestBelow upper greatest = MatchOption greatest
    ((x : ℤ) → FitsSigned w64 x → is_below upper x ≡ false)
    (λ high. (x : ℤ) → FitsSigned w64 x → is_below upper x ≡ int_le x high)

-- they are just the cells that are within two bounds
abbrev pub IsSpanOf : Option Bound → Option Bound → ℤ → ℤ → Type 0
IsSpanOf lower upper low high = (x : ℤ) → FitsSigned w64 x → is_within lower upper x ≡ in_span low high x
