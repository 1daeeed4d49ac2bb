-- Calls over a handle.
use Rattle.std.specs.Prelude.{ℕ, ◌≡◌, Bool, true, false, List, [], Option, Some, None, MatchOption}
use Rattle.sw_solo.specs.Called.{SoloState}
use Rattle.sideways_c.specs.Shown.{Shown}
use Rattle.sideways_c.specs.declared.holder.Sideways.{Sideways}
use Rattle.sideways_c.specs.declared.inner.Inner.{Inner}
use Rattle.sideways_c.specs.declared.kept.Kept.{Kept}
use Rattle.sideways_c.specs.declared.codes.TheConstants.{MISUSE, NO_SESSION}

-- what the handle shows, if it is open
abbrev pub shown : Option Inner → Option Shown
shown None = None
shown (Some i) = Some i.state.value

abbrev pub seen : Sideways → Option Shown
seen h = shown h.slot.value

-- the engine of a handle that has one
abbrev pub engine_in : Option Shown → Option SoloState
engine_in None = None
engine_in (Some h) = h.engine

abbrev pub text_in : Option Shown → List ℕ
text_in None = []
text_in (Some h) = h.text

-- nothing has changed, and this is the code
abbrev pub Tells : ℕ → Shown → Shown → ℕ → Type 0
Tells told old new code = (code ≡ told) × (new ≡ old)

-- a call of a handle that has an engine makes this of it; of one without it tells so
abbrev pub OnEngine : (SoloState → Shown → Shown → ℕ → Type 0) → Shown → Shown → ℕ → Type 0
OnEngine makes old new code = MatchOption old.engine (Tells MISUSE old new code) (λ s. makes s old new code)

-- the same of a handle, which may be closed
abbrev pub OnHandle : (Shown → Shown → ℕ → Type 0) → Option Shown → Option Shown → ℕ → Type 0
OnHandle makes None new code = (code ≡ MISUSE) × (new ≡ None)
OnHandle makes (Some h) None code = ⊥
OnHandle makes (Some h) (Some n) code = makes h n code

-- a call of a session makes this of the engine; where there is no such session, it tells so
abbrev pub InSession : Bool → Type 0 → Shown → Shown → ℕ → Type 0
InSession true makes old new code = makes
InSession false makes old new code = Tells NO_SESSION old new code

-- a handle's text was taken out and another put in its place
abbrev pub HasExchangedText : List ℕ → List ℕ → Option Shown → Option Shown → Type 0
HasExchangedText given was old new =
    (h : Shown) × (old ≡ Some h) × (was ≡ h.text) × (new ≡ Some (record h { text = given }))

-- the same of its engine
abbrev pub HasExchangedEngine : Option SoloState → Option SoloState → Option Shown → Option Shown → Type 0
HasExchangedEngine given was old new =
    (h : Shown) × (old ≡ Some h) × (was ≡ h.engine) × (new ≡ Some (record h { engine = given }))

-- the same of its rows
abbrev pub HasExchangedRows : Option Kept → Option Kept → Option Shown → Option Shown → Type 0
HasExchangedRows given was old new =
    (h : Shown) × (old ≡ Some h) × (was ≡ h.kept) × (new ≡ Some (record h { kept = given }))
