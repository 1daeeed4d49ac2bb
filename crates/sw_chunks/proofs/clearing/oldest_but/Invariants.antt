use Rattle.std.proofs.Common.{◌≢◌, ◌<◌, ℕ, length, get_or, MatchOption}
use Rattle.sw_set.specs.Shelf.{AreaState}
use Rattle.sw_chunks.specs.Cleared.{HasMap, IsAllBlank}
use Rattle.sw_chunks.proofs.clearing.oldest_but.Given as goal

abbrev pub invariant-loop-k : goal.invariant-loop-k
invariant-loop-k g l =
    MatchOption l.best
    ((j : ℕ) (d : AreaState) → j < l.k → j < length l.areas → j ≢ l.but → IsAllBlank (get_or l.areas j d))
    (λ p. (p.0 < length l.areas) × (p.0 ≢ l.but) × ((d : AreaState) → HasMap (get_or l.areas p.0 d)))
