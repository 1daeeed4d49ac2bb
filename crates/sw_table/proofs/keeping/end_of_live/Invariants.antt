use Rattle.std.proofs.Common.{◌≡◌, ◌≤◌, ◌<◌, ℕ, true, false, slice_index_or}
use Rattle.sw_table.proofs.keeping.end_of_live.Given as goal

-- the flags so far are all true
abbrev pub invariant-loop-place : goal.invariant-loop-place
invariant-loop-place l = (i : ℕ) → l.from ≤ i → i < l.place → slice_index_or l.live i false ≡ true
