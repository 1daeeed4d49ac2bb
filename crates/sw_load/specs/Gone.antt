-- Places of a list that are gone, and the items that are left.
use Rattle.std.specs.Prelude.{◌≡◌, ◌≤◌, ◌<◌, ◌+◌, ◌-◌, ◌++◌, ◌∷◌, [], ℕ, Bool, true, false, List, zero, suc, drop, length, replicate}
use Rattle.sw_table.specs.declared.row.Row.{Row}
use Rattle.sw_table.specs.Kept.{kept}
use Rattle.sw_table.specs.Packed.{stretch}

-- the items of a list from the n-th on, without those at some places, which rise
abbrev pub without_places : {X : Type 0} → ℕ → List ℕ → List X → List X
without_places n [] xs = drop n xs
without_places n (g ∷ gs) xs = stretch n (g - n) xs ++ without_places (g + 1) gs xs

-- what is left of rows without those at some places
abbrev pub left_of : List Row → List ℕ → List Row
left_of rows gone = without_places 0 gone rows

-- places that rise, from the n-th on and before the m-th
abbrev pub ArePlaces : ℕ → ℕ → List ℕ → Type 0
ArePlaces n m [] = n ≤ m
ArePlaces n m (g ∷ gs) = (n ≤ g) × ArePlaces (g + 1) m gs

-- the flags of the items from the n-th on and before the m-th: false at some places, which rise, and else true
abbrev pub flags_without : ℕ → ℕ → List ℕ → List Bool
flags_without n m [] = replicate (m - n) true
flags_without n m (g ∷ gs) = replicate (g - n) true ++ false ∷ flags_without (g + 1) m gs

-- so many of some places, the first ones, come before the item that would be the p-th if none of them were there
abbrev pub AreBefore : ℕ → List ℕ → ℕ → Type 0
AreBefore p [] zero = Unit {0}
AreBefore p [] (suc i) = ⊥
AreBefore p (g ∷ gs) zero = p < g
AreBefore p (g ∷ gs) (suc i) = (g ≤ p) × AreBefore (p + 1) gs i

-- the places that are gone where some were, and then those of the items that were left whose flags are false
pub record AreGoneAfter (live : List Bool) (old new : List ℕ) : Type 0 where
  pub places : ArePlaces 0 (length live + length old) new
  pub items : (xs : List Row) → length xs ≡ length live + length old → left_of xs new ≡ kept live (left_of xs old)
