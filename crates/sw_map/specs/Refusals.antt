-- Why a map could not begin or grow.
use Rattle.std.specs.Prelude.{◌≡◌, ◌≢◌, ◌<◌, ◌≤◌, ◌+◌, ◌++◌, ◌∷◌, [], ℕ, Bool, List, Result, MatchResult}
use Rattle.sw_query.specs.Outcomes.{IsRefused}
use Rattle.sw_table.specs.declared.row.Row.{Row}
use Rattle.sw_kernel.specs.Replay.{Step}
use Rattle.sw_map.specs.declared.tail.Tail.{Tail}
use Rattle.sw_query.specs.declared.refusal.Refusal.{Refusal}
use Rattle.sw_query.specs.declared.refusal.Refusal.TheVariants.{NoMemory, Short, Contended}
use Rattle.sw_map.specs.Held.{Held, after, begun, blank, grown_if}

-- No memory; or the budget's cells in use and the cells wanted exceed its capacity; or the budget's word had changed
-- between the look and the step.
abbrev pub IsBeginRefusal : ℕ → Refusal → Type 0
IsBeginRefusal cells NoMemory = Unit {0}
IsBeginRefusal cells (Short used want capacity) = (want ≡ cells) × (used ≤ capacity) × (capacity < used + want)
IsBeginRefusal cells (Contended seen found) = seen ≢ found
IsBeginRefusal cells _ = ⊥

-- What a map is after it was to begin: begun; or refused, and blank.
abbrev pub HasBegunOr : {A : Type 0} → Result A Refusal → ℕ → Tail → ℕ → Held → Type 0
HasBegunOr r head tail cells n =
    MatchResult r (λ _. n ≡ begun head tail cells) (λ e. (n ≡ blank) × IsBeginRefusal cells e)

-- What a map m is after it was to replay an entry: the map after it; or refused for want of memory, and as it was.
abbrev pub HasReplayedOr : {A : Type 0} → Result A Refusal → Step Row → Held → Held → Type 0
HasReplayedOr r e m n = MatchResult r (λ _. n ≡ after e m) (IsRefused m n)

-- A box was put behind others; or there was no memory, the others are as they were, and it comes back.
abbrev pub IsPushedOr : {A M : Type 0} → Result A (M × Refusal) → M → List M → List M → Type 0
IsPushedOr r it old new = MatchResult r (λ _. new ≡ old ++ it ∷ []) (λ back. (new ≡ old) × (back ≡ (it, NoMemory)))

-- What a map m is after it was to grow to so many cells: grown or not, as is answered; or refused, and blank.
abbrev pub HasGrownOr : Result Bool Refusal → ℕ → Held → Held → Type 0
HasGrownOr r cells m n = MatchResult r (λ grew. n ≡ grown_if grew cells m) (λ e. (n ≡ blank) × IsBeginRefusal cells e)
