-- Calls that are printed and read again.
use Rattle.std.specs.Prelude.{◌≡◌, ℕ, List, Some, Ok, ℤ, Option, ◌++◌, ◌∷◌}
use Rattle.sw_rows.specs.Header.{Column, IsSchema, kinds_of}
use Rattle.sw_rows.specs.Tables.{row_of}
use Rattle.sw_rows.specs.TextRows.{IsRowCoded}
use Rattle.sw_query.specs.declared.query.Call.{Call}
use Rattle.sw_lang.specs.Fits.{FitsCells}
use Rattle.sw_lang.specs.Grammar.{IsLine}
use Rattle.sw_lang.specs.Learning.{knowing}
use Rattle.sw_lang.specs.PrintedCalls.{call_text}
use Rattle.sw_lang.specs.Reading.{line_at}
use Rattle.sw_lang.specs.Replies.{quoted_text}
use Rattle.sw_lang.specs.Tokens.{quoted, tokens}

-- where a line is a call, the printed text of the call is a line too, and it is the same call
abbrev pub PrintedCallsAreLines : Type 0
PrintedCallsAreLines =
    (schema : List Column) (text : List ℕ) (call : Call)
    → IsSchema schema → IsLine schema text (Some call) → IsLine schema (call_text schema call) (Some call)

-- and so it is read as that call
abbrev pub PrintedCallsAreRead : Type 0
PrintedCallsAreRead =
    (schema : List Column) (text : List ℕ) (call : Call)
    → IsSchema schema → IsLine schema text (Some call) → line_at schema (call_text schema call) ≡ Ok (Some call)

-- a line is the same call under the attributes that know more texts
abbrev pub KeepsItsCall : List Column → List (List ℕ) → List ℕ → Type 0
KeepsItsCall schema more text =
    (call : Option Call) → IsSchema schema → IsSchema (knowing more schema)
    → line_at schema text ≡ Ok call → line_at (knowing more schema) text ≡ Ok call

-- the text between quotes is one token before these bytes
abbrev pub IsOneToken : List ℕ → List ℕ → Type 0
IsOneToken text rest = tokens (quoted_text text ++ rest) ≡ quoted text ∷ tokens rest

-- cells that fit the attributes are codes of texts, where they are of texts
abbrev pub MakesCodedRow : List Column → ℕ → List ℤ → Type 0
MakesCodedRow schema key cells = FitsCells (kinds_of schema) cells → IsRowCoded (kinds_of schema) (row_of key cells)
