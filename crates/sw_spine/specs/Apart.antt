-- Where the lines of two replies part.
use Rattle.std.specs.Prelude.{◌≡◌, ℕ, List, slice_get, take}

-- the lines at a place are the same
abbrev pub IsSameAt : ℕ → List (List ℕ) → List (List ℕ) → Type 0
IsSameAt n given listed = slice_get given n ≡ slice_get listed n

-- the first so many lines of two replies are the same, and the lines at the next place are only where the replies are
abbrev pub PartAt : ℕ → List (List ℕ) → List (List ℕ) → Type 0
PartAt n given listed = (take n given ≡ take n listed) × (IsSameAt n given listed → given ≡ listed)
