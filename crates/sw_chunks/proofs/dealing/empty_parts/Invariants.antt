use Rattle.std.proofs.Common.{◌≡◌, ◌<◌, ℕ, [], length, get_or}
use Rattle.sw_chunks.proofs.dealing.empty_parts.Given as goal

abbrev pub invariant-loop : goal.invariant-loop
invariant-loop l = (length l.parts.items ≡ l.counter) × ((k : ℕ) (d : _) → k < length l.parts.items → (get_or l.parts.items k d).items ≡ [])
