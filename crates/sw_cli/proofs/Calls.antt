-- The call of a line of a script.
use Rattle.std.proofs.Common.{◌≡◌, refl, ℕ, ◌≤◌, Bool, true, false, List, length, Err, arith, IsUtf8}
use Rattle.std.proofs.lemmas.Bool.Decides.{nat_tests}
use Rattle.std.proofs.lemmas.Str.{IsUtf8-from_is_utf8, is_utf8-from_IsUtf8}
use Rattle.std.specs.Prelude.{nat_lt}
use Rattle.std.specs.Str.{is_utf8}
use Rattle.sw_rows.specs.Header.{Column}
use Rattle.sw_query.specs.declared.refusal.Refusal.TheVariants.{BadLine}
use Rattle.sw_query.specs.declared.refusal.Why.TheVariants as why
use Rattle.sw_lang.specs.Learning.{learned}
use Rattle.sw_lang.specs.Reading.{line_at, refused}
use Rattle.sw_cli.specs.Script.{call_of_line}

-- a line that is short and text
pub text_line : (columns : List Column) (n : ℕ) (line : List ℕ) → length line ≤ 4096 → IsUtf8 line → call_of_line columns n line ≡ refused n (line_at (learned columns line) line)
text_line columns n line short text =
    let long : nat_lt 4096 (length line) ≡ false = grind (arith, nat_tests) in
    rw (long, is_utf8-from_IsUtf8 line text) refl

not_utf8 : (line : List ℕ) (b : Bool) → is_utf8 line ≡ b → ¬ (IsUtf8 line) → is_utf8 line ≡ false
not_utf8 line true e h = absurd (h (IsUtf8-from_is_utf8 line e))
not_utf8 line false e h = e

-- a line that is short and no text
pub other_line : (columns : List Column) (n : ℕ) (line : List ℕ) → length line ≤ 4096 → ¬ (IsUtf8 line) → call_of_line columns n line ≡ Err (BadLine n why.Encoding)
other_line columns n line short h =
    let long : nat_lt 4096 (length line) ≡ false = grind (arith, nat_tests) in
    rw (long, not_utf8 line (is_utf8 line) refl h) refl
