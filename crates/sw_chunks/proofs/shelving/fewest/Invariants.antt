use Rattle.std.proofs.Common.{◌<◌, ◌≤◌, ℕ, length, get_or}
use Rattle.sw_set.specs.Shelf.{AreaState}
use Rattle.sw_chunks.proofs.shelving.fewest.Given as goal

abbrev pub invariant-loop-k : goal.invariant-loop-k
invariant-loop-k g l =
    (l.best < length l.areas) × (l.best ≤ l.k) × ((j : ℕ) (d e : AreaState) → j < l.k → j < length l.areas → length (get_or l.areas l.best d).boxes ≤ length (get_or l.areas j e).boxes) × ((j : ℕ) (d e : AreaState) → j < l.best → length (get_or l.areas l.best d).boxes < length (get_or l.areas j e).boxes)
