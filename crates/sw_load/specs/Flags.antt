-- Flags of rows that are live.
use Rattle.std.specs.Prelude.{◌≡◌, ◌≤◌, ◌<◌, ℕ, Bool, true, false, List, length, slice_index_or}

-- the flags from p to e are all true
abbrev pub AreLive : List Bool → ℕ → ℕ → Type 0
AreLive live p e = (i : ℕ) → p ≤ i → i < e → slice_index_or live i false ≡ true

-- the first flag that is false, from a place on, is at another
pub record IsNextGone (live : List Bool) (from place : ℕ) : Type 0 where
  pub after : from ≤ place
  pub within : place < length live
  pub gone : slice_index_or live place false ≡ false
  pub live_before : AreLive live from place
