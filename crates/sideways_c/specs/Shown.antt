-- What a handle shows.
use Rattle.std.specs.Prelude.{ℕ, ◌&&◌, Bool, nat_le, nat_lt, List, [], Option, Some, None}
use Rattle.sw_solo.specs.Called.{SoloState}
use Rattle.sideways_c.specs.declared.kept.Kept.{Kept}

-- the engine, if there is one, and the text and the rows that were kept last
pub record Shown : Type 0 where
  pub engine : Option SoloState
  pub text : List ℕ
  pub kept : Option Kept

-- an engine with an empty text and no rows
abbrev pub over : SoloState → Shown
over s = record { engine = Some s; text = []; kept = None }

-- a text alone
abbrev pub telling : List ℕ → Shown
telling text = record { engine = None; text = text; kept = None }

-- whether a session was opened
abbrev pub has_session : ℕ → SoloState → Bool
has_session n s = nat_lt 0 n && nat_le n s.sessions
