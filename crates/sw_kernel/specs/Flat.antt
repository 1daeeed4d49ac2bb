-- The flat form of an arrangement: its items in one list, and marks where a bound's right side begins.
use Rattle.std.specs.Prelude.{◌≡◌, ◌≤◌, ℕ, ℤ, false, cond, List, [], ◌∷◌, length, zip, ◌+◌, suc, zero, vec_capacity}
use Rattle.std.specs.Global.{Vec}
use Rattle.sw_query.specs.declared.bound.Bound.{Bound}
use Rattle.sw_query.specs.Bounds.{bound_below, same_bound}
use Rattle.sw_kernel.specs.declared.mark.Mark.{Mark}
use Rattle.sw_kernel.specs.Arrangement.{Arrangement, last, piece, joined}

-- the marks of an arrangement whose first item stands at n
abbrev pub marks_from : {A : Type 0} → ℕ → Arrangement A → List Mark
marks_from n (last xs) = []
marks_from n (piece xs b rest) = record { bound = b; at = n + length xs } ∷ marks_from (n + length xs) rest

-- these items and marks are this arrangement
abbrev pub IsFlat : {A : Type 0} → Arrangement A → List A → List Mark → Type 0
IsFlat a items marks = (joined a ≡ items) × (marks_from 0 a ≡ marks)

-- whatever arrangement the items and marks are before, they are what f makes of it afterwards
abbrev pub Become : {A : Type 0} → (Arrangement A → Arrangement A) → List A → List Mark → List A → List Mark → Type 0
Become {A} f items marks items' marks' = (a : Arrangement A) → IsFlat a items marks → IsFlat (f a) items' marks'

abbrev pub Pairs : Type 0
Pairs = Arrangement (ℤ × ℤ)

-- so do the pairs of two lists
abbrev pub TurnInto : (Pairs → Pairs) → Vec ℤ → Vec ℤ → List Mark → Vec ℤ → Vec ℤ → List Mark → Type 0
TurnInto f head tail marks head' tail' marks' =
    Become f (zip head.items tail.items) marks (zip head'.items tail'.items) marks'

-- a list's memory stays as it was
abbrev pub KeepsRoom : Vec ℤ → Vec ℤ → Type 0
KeepsRoom old new = vec_capacity new ≡ vec_capacity old

-- the places of the marks never fall, from i on, and never pass n
abbrev pub InOrder : ℕ → ℕ → List Mark → Type 0
InOrder i n [] = i ≤ n
InOrder i n (m ∷ ms) = (i ≤ m.at) × InOrder m.at n ms

-- where the piece before these marks ends, of n items
abbrev pub end_before : List Mark → ℕ → ℕ
end_before [] n = n
end_before (m ∷ ms) n = m.at

-- how many marks stand before the bound
abbrev pub marks_below : List Mark → Bound → ℕ
marks_below [] b = 0
marks_below (m ∷ ms) b = cond (bound_below b m.bound) 0 (suc (marks_below ms b))

-- where the k-th piece begins, if the first begins at i
abbrev pub start_at : ℕ → List Mark → ℕ → ℕ
start_at i ms zero = i
start_at i [] (suc k) = i
start_at i (m ∷ ms) (suc k) = start_at m.at ms k

-- no mark has the bound
abbrev pub IsNew : Bound → List Mark → Type 0
IsNew b [] = Unit {0}
IsNew b (m ∷ ms) = (same_bound b m.bound ≡ false) × IsNew b ms
