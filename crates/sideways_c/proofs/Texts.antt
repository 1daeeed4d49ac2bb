-- Bytes that are text, and bytes that are not.
use Rattle.std.proofs.Common.{◌≡◌, refl, pos, ℕ, Bool, true, false, List, Err, IsUtf8}
use Rattle.std.proofs.lemmas.Str.{IsUtf8-from_is_utf8, is_utf8-from_IsUtf8}
use Rattle.std.specs.Str.{is_utf8}
use Rattle.sw_rows.specs.Header.{Column, texts_of}
use Rattle.sw_rows.specs.Texts.{code_of}
use Rattle.sw_query.specs.declared.refusal.Refusal.TheVariants.{BadLine}
use Rattle.sw_query.specs.declared.refusal.Why.TheVariants as why
use Rattle.sw_lang.specs.CutsReading.{cuts_at}
use Rattle.sw_lang.specs.Learning.{learned}
use Rattle.sw_lang.specs.Reading.{line_at, refused}
use Rattle.sideways_c.specs.Executed.{call_in}
use Rattle.sideways_c.specs.Looks.{code_known, or_zero}
use Rattle.sideways_c.specs.Opened.{cuts_in}

not_utf8 : (line : List ℕ) (b : Bool) → is_utf8 line ≡ b → ¬ (IsUtf8 line) → is_utf8 line ≡ false
not_utf8 line true e h = absurd (h (IsUtf8-from_is_utf8 line e))
not_utf8 line false e h = e

-- a line that is text is read
pub text_call : (columns : List Column) (line : List ℕ) → IsUtf8 line → call_in columns line ≡ refused 1 (line_at (learned columns line) line)
text_call columns line text = rw (is_utf8-from_IsUtf8 line text) refl

-- a line that is not is refused
pub other_call : (columns : List Column) (line : List ℕ) → ¬ (IsUtf8 line) → call_in columns line ≡ Err (BadLine 1 why.Encoding)
other_call columns line h = rw (not_utf8 line (is_utf8 line) refl h) refl

-- cuts that are text are read
pub text_cuts : (columns : List Column) (text : List ℕ) → IsUtf8 text → cuts_in columns text ≡ refused 0 (cuts_at columns text)
text_cuts columns text is = rw (is_utf8-from_IsUtf8 text is) refl

-- cuts that are not are refused
pub other_cuts : (columns : List Column) (text : List ℕ) → ¬ (IsUtf8 text) → cuts_in columns text ≡ Err (BadLine 0 why.Cuts)
other_cuts columns text h = rw (not_utf8 text (is_utf8 text) refl h) refl

-- the code of a text
pub text_code : (columns : List Column) (text : List ℕ) → IsUtf8 text → code_known columns text ≡ or_zero (code_of (texts_of columns) text)
text_code columns text is = rw (is_utf8-from_IsUtf8 text is) refl

-- bytes that are no text have the code 0
pub other_code : (columns : List Column) (text : List ℕ) → ¬ (IsUtf8 text) → code_known columns text ≡ pos 0
other_code columns text h = rw (not_utf8 text (is_utf8 text) refl h) refl
