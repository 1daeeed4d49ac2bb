-- Texts that become known while an engine is open.
use Rattle.std.specs.Prelude.{ℕ, ℤ, ◌≡◌, ◌⊎◌, ◌&&◌, Bool, true, false, List, [], ◌∷◌, Option, None, Some, Result, Ok, Err}
use Rattle.sw_rows.specs.Gives.{Fails}
use Rattle.sw_rows.specs.Header.{Column, has_texts, texts_of}
use Rattle.sw_rows.specs.Texts.{cell_given, is_text}
use Rattle.sw_query.specs.declared.refusal.Refusal.{Refusal}
use Rattle.sw_lang.specs.Learning.{knowing}
use Rattle.sw_solo.specs.Called.{SoloState, with_columns}
use Rattle.sideways_c.specs.Codes.{code_of}
use Rattle.sideways_c.specs.Looks.{IsLook}
use Rattle.sideways_c.specs.Shown.{Shown}
use Rattle.sideways_c.specs.declared.codes.TheConstants.{BAD_CELL, MISUSE}

-- whether a text may stand in a cell of the table
abbrev pub may_know : List ℕ → List Column → Bool
may_know text columns = has_texts columns && is_text text

-- the code of a text, which the table knows; or it is none, or one too many, or there was no memory
abbrev pub Learns : List ℕ → SoloState → SoloState → Result ℤ ℕ → Type 0
Learns text s t (Ok code) =
    (may_know text s.history.columns ≡ true) × (cell_given (texts_of s.history.columns) text ≡ Ok code)
    × (t ≡ with_columns (knowing (text ∷ []) s.history.columns) s)
Learns text s t (Err told) =
    (t ≡ s)
    × (((may_know text s.history.columns ≡ false) × (told ≡ BAD_CELL))
    ⊎ ((e : Refusal) × Fails ⊥ e (cell_given (texts_of s.history.columns) text) × (told ≡ code_of e)))

abbrev pub LearnsIn : List ℕ → Option SoloState → Option SoloState → Result ℤ ℕ → Type 0
LearnsIn text None t r = (t ≡ None) × (r ≡ Err MISUSE)
LearnsIn text (Some s) None r = ⊥
LearnsIn text (Some s) (Some t) r = Learns text s t r

-- the same of a handle
abbrev pub LearnsHandle : List ℕ → Option Shown → Option Shown → ℕ → ℤ → ℤ → Type 0
LearnsHandle text None new told was now = (told ≡ MISUSE) × (new ≡ None) × (now ≡ was)
LearnsHandle text (Some h) new told was now =
    (t : Option SoloState) × (r : Result ℤ ℕ) × LearnsIn text h.engine t r × IsLook r told was now
    × (new ≡ Some (record h { engine = t }))
