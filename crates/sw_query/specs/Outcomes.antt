-- What a call that may want memory answers.
use Rattle.std.specs.Prelude.{◌≡◌, Result, MatchResult}
use Rattle.sw_query.specs.declared.refusal.Refusal.{Refusal}
use Rattle.sw_query.specs.declared.refusal.Refusal.TheVariants as refusal

-- memory aside: what was made passes, or memory was refused
abbrev pub MemoryAside : {X : Type 0} → Result X Refusal → (X → Type 0) → Type 0
MemoryAside r P = MatchResult r P (λ e. e ≡ refusal.NoMemory)

-- refused for want of memory alone, and nothing has changed
abbrev pub IsRefused : {X : Type 0} → X → X → Refusal → Type 0
IsRefused old new e = (new ≡ old) × (e ≡ refusal.NoMemory)
