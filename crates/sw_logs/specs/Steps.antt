-- What the check of an order knows after each call.
use Rattle.std.specs.Prelude.{◌≡◌, ◌<◌, ◌≤◌, ◌+◌, ℕ, Bool, true, false, List, length, max, slice_get, slice_index_or, slice_set, Some}
use Rattle.sw_logs.specs.Orders.{StandOnce, is_known}
use Rattle.sw_logs.specs.declared.logged.Logged.{Logged}

-- calls with a flag stand at some place
abbrev pub AreSeen : List ℕ → List Bool → Type 0
AreSeen places seen = (i : ℕ) → slice_index_or seen i false ≡ true → (p : ℕ) × (slice_get places p ≡ Some i)

-- there are so many flags, no call stands at two places, and calls with a flag stand at some place
pub record IsMarked (count : ℕ) (places : List ℕ) (seen : List Bool) : Type 0 where
  pub many : length seen ≡ count
  pub once : StandOnce places
  pub seen_are : AreSeen places seen

-- a call of known outcome did not end more than the slack before the latest start, which then is that with its own
abbrev pub StartsOn : Logged → ℕ → ℕ → ℕ → Type 0
StartsOn c slack latest next = (is_known c ≡ true → latest ≤ c.end + slack) × (next ≡ max latest c.start)

-- a call of known outcome has no number below the one from which on those of its session come, which is raised above it
pub record IsRaised (c : Logged) (number : ℕ) (old new : List ℕ) : Type 0 where
  pub within : c.session < length old
  pub ahead : is_known c ≡ true → slice_index_or old c.session 0 ≤ number
  pub raised : new ≡ slice_set old c.session (max (slice_index_or old c.session 0) (number + 1))
