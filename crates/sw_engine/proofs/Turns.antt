-- Whose turn it is.
use Rattle.std.proofs.Common.{ℕ, ◌<◌, ◌%◌}
use Rattle.std.proofs.lemmas.Nat.{mod_below}

-- a turn, a number modulo how many there are, is that of one of them
pub turn_below : (n k : ℕ) → 0 < k → n % k < k
turn_below = mod_below
