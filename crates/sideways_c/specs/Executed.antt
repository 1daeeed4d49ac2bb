-- A line that is executed.
use Rattle.std.specs.Prelude.{ℕ, ◌≡◌, ◌⊎◌, if◌then◌else◌, List, [], Option, Some, None, Result, Ok, Err}
use Rattle.std.specs.Str.{is_utf8}
use Rattle.std.specs.Global.{Vec}
use Rattle.sw_rows.specs.Header.{Column}
use Rattle.sw_query.specs.declared.query.Call.{Call}
use Rattle.sw_query.specs.declared.refusal.Refusal.{Refusal}
use Rattle.sw_query.specs.declared.refusal.Refusal.TheVariants.{BadLine, NoMemory}
use Rattle.sw_query.specs.declared.refusal.Refusal.TheVariants as refusal
use Rattle.sw_query.specs.declared.refusal.Why.TheVariants as why
use Rattle.sw_lang.specs.Learning.{learned}
use Rattle.sw_lang.specs.Reading.{line_at, refused}
use Rattle.sw_lang.specs.Replies.{reply_bytes}
use Rattle.sw_solo.specs.Called.{RefusesCall, SoloState, reply_in, with_call, with_columns}
use Rattle.sideways_c.specs.Codes.{code_of}
use Rattle.sideways_c.specs.Handles.{InSession, OnEngine, OnHandle}
use Rattle.sideways_c.specs.Shown.{Shown, has_session}
use Rattle.sideways_c.specs.declared.codes.TheConstants.{NO_TEXT, OK}

-- an engine whose table knows the texts of a line besides
abbrev pub learning : List ℕ → SoloState → SoloState
learning line s = with_columns (learned s.history.columns line) s

-- the call of a line, whose texts are known
abbrev pub call_in : List Column → List ℕ → Result (Option Call) Refusal
call_in columns line =
    if is_utf8 line then refused 1 (line_at (learned columns line) line) else Err (BadLine 1 why.Encoding)

-- why a line was not executed: the call could not be made, or there is none in it
abbrev pub IsNotExecuted : Result (Option Call) Refusal → SoloState → Refusal → Type 0
IsNotExecuted read s e = RefusesCall s e ⊎ (read ≡ Err e)

-- a line without a call leaves the engine as it was; a call stands at the history's end, whose table knows the line's texts,
-- and the text, where there was memory for it, is that of the reply of one thread over a plain list of rows
abbrev pub IsExecuted : ℕ → List ℕ → Result (Option Call) Refusal → SoloState → SoloState → Option (Vec ℕ) → Type 0
IsExecuted session line (Ok None) s t None = ⊥
IsExecuted session line (Ok None) s t (Some text) = (t ≡ s) × (text.items ≡ [])
IsExecuted session line (Ok (Some c)) s t None = t ≡ with_call session c (learning line s)
IsExecuted session line (Ok (Some c)) s t (Some text) =
    (t ≡ with_call session c (learning line s))
    × (text.items ≡ reply_bytes (learned s.history.columns line) c (reply_in s c))
IsExecuted session line (Err e) s t told = ⊥

abbrev pub Executes : ℕ → List ℕ → Result (Option Call) Refusal → SoloState → SoloState → Result (Option (Vec ℕ)) Refusal → Type 0
Executes session line read s t (Ok told) = IsExecuted session line read s t told
Executes session line read s t (Err e) = (t ≡ s) × IsNotExecuted read s e

-- the same of what a handle shows, and the code: the call was made, and the text is that of its reply, or there was no
-- memory for it
abbrev pub MakesCall : ℕ → Call → SoloState → Shown → Shown → ℕ → Type 0
MakesCall session c s old new code =
    ((code ≡ OK) × (new ≡ record old {
      engine = Some (with_call session c s);
      text = reply_bytes s.history.columns c (reply_in s c);
    }))
    ⊎ ((code ≡ NO_TEXT) × (new ≡ record old { engine = Some (with_call session c s) }))

abbrev pub MakesLine : ℕ → List ℕ → Result (Option Call) Refusal → SoloState → Shown → Shown → ℕ → Type 0
MakesLine session line read s old new code =
    ((e : Refusal) × IsNotExecuted read s e × (code ≡ code_of e) × (new ≡ old))
    ⊎ ((read ≡ Ok None) × (code ≡ OK) × (new ≡ record old { text = [] }))
    ⊎ ((c : Call) × (read ≡ Ok (Some c)) × MakesCall session c (learning line s) old new code)

-- a line is executed as a session's
abbrev pub ExecutesIn : ℕ → List ℕ → Shown → Shown → ℕ → Type 0
ExecutesIn session line old new code =
    OnEngine (λ s o n k. InSession (has_session session s) (MakesLine session line (call_in s.history.columns line) s o n k) o n k)
    old new code

abbrev pub ExecutesLine : ℕ → List ℕ → Option Shown → Option Shown → ℕ → Type 0
ExecutesLine session line old new code = OnHandle (ExecutesIn session line) old new code

-- ---- why a line is refused

abbrev pub IsLineRefusal : Result (Option Call) Refusal → Option Refusal → Type 0
IsLineRefusal read None = (c : Option Call) × (read ≡ Ok c)
IsLineRefusal read (Some refusal.NoMemory) = Unit {0}
IsLineRefusal read (Some e) = read ≡ Err e

-- the line is not refused, and the text is empty; or it is, and the text is words about that, of which no clause speaks; or
-- there was no memory for them
abbrev pub FaultsLine : List ℕ → SoloState → Shown → Shown → ℕ → Type 0
FaultsLine line s old new code =
    (IsLineRefusal (call_in s.history.columns line) None × (code ≡ OK) × (new ≡ record old { text = [] }))
    ⊎ ((e : Refusal) × (text : List ℕ) × IsLineRefusal (call_in s.history.columns line) (Some e) × (code ≡ code_of e)
    × (new ≡ record old { text = text }))
    ⊎ ((code ≡ code_of NoMemory) × (new ≡ old))

abbrev pub FaultsIn : List ℕ → Shown → Shown → ℕ → Type 0
FaultsIn line old new code = OnEngine (FaultsLine line) old new code

abbrev pub FaultsHandle : List ℕ → Option Shown → Option Shown → ℕ → Type 0
FaultsHandle line old new code = OnHandle (FaultsIn line) old new code
