-- What a handle tells of its engine's table.
use Rattle.std.specs.Prelude.{ℕ, ℤ, pos, ◌≡◌, if◌then◌else◌, List, length, nat_le, Option, None, Some, Result, Ok, Err, MatchResult, slice_get}
use Rattle.std.specs.Str.{is_utf8}
use Rattle.sw_rows.specs.Domains.{Domain}
use Rattle.sw_rows.specs.Domains as kind
use Rattle.sw_rows.specs.Header.{Column, names_of, texts_of}
use Rattle.sw_rows.specs.Texts.{code_of, text_at}
use Rattle.sw_lang.specs.Replies.{kind_at}
use Rattle.sw_arrays.specs.Blocks.{filled}
use Rattle.sw_solo.specs.Called.{SoloState}
use Rattle.sideways_c.specs.declared.told.Stats.{Stats}
use Rattle.sideways_c.specs.declared.codes.TheConstants.{BAD_CELL, MISUSE, NO_ATTRIBUTE, OK}

-- how many attributes there are, and how many texts are known
abbrev pub width_told : Option SoloState → ℕ
width_told None = 0
width_told (Some s) = length s.history.columns

abbrev pub texts_told : Option SoloState → ℕ
texts_told None = 0
texts_told (Some s) = length (texts_of s.history.columns)

-- what is told of the attributes of an engine, if there is one
abbrev pub looked : {A : Type 0} → (List Column → Result A ℕ) → Option SoloState → Result A ℕ
looked told None = Err MISUSE
looked told (Some s) = told s.history.columns

-- what was told stands behind an out pointer; refused, that is as it was
abbrev pub IsLook : {A : Type 0} → Result A ℕ → ℕ → A → A → Type 0
IsLook (Ok x) code was now = (code ≡ OK) × (now ≡ x)
IsLook (Err told) code was now = (code ≡ told) × (now ≡ was)

-- the same of bytes, as much of them as there was room for, and of their number
abbrev pub IsCopied : Result (List ℕ) ℕ → ℕ → List ℕ → List ℕ → ℕ → Type 0
IsCopied (Ok bytes) code was now size = (code ≡ OK) × (now ≡ filled bytes was) × (size ≡ length bytes)
IsCopied (Err told) code was now size = (code ≡ told) × (now ≡ was) × (size ≡ 0)

-- the number of a kind
abbrev pub kind_code : Domain → ℕ
kind_code kind.Int = 0
kind_code (kind.Fix places) = places
kind_code kind.Flag = 7
kind_code (kind.Text texts) = 8

abbrev pub kind_told : ℕ → List Column → Result ℕ ℕ
kind_told a columns = if nat_le (length columns) a then Err NO_ATTRIBUTE else Ok (kind_code (kind_at columns a))

-- the name of an attribute
abbrev pub or_code : {A : Type 0} → ℕ → Option A → Result A ℕ
or_code code None = Err code
or_code code (Some x) = Ok x

abbrev pub name_told : ℕ → List Column → Result (List ℕ) ℕ
name_told a columns = or_code NO_ATTRIBUTE (slice_get (names_of columns) a)

-- the code of a text, or 0
abbrev pub or_zero : Option ℕ → ℤ
or_zero None = pos 0
or_zero (Some code) = pos code

abbrev pub code_known : List Column → List ℕ → ℤ
code_known columns text = if is_utf8 text then or_zero (code_of (texts_of columns) text) else pos 0

abbrev pub code_told : List ℕ → List Column → Result ℤ ℕ
code_told text columns = Ok (code_known columns text)

-- the text of a code
abbrev pub text_told : ℤ → List Column → Result (List ℕ) ℕ
text_told code columns = or_code BAD_CELL (text_at (texts_of columns) code)

-- whether an attribute has a head
abbrev pub head_told : ℕ → List Column → Result (Unit {0}) ℕ
head_told a columns = if nat_le (length columns) a then Err NO_ATTRIBUTE else Ok tt

abbrev pub IsHeadTold : {A : Type 0} → Result (Unit {0}) ℕ → Result A ℕ → Type 0
IsHeadTold has told = MatchResult told (λ _. has ≡ Ok tt) (λ e. has ≡ Err e)

-- what a head tells is not spoken of; refused, what stood there is as it was
abbrev pub IsStatsTold : Result (Unit {0}) ℕ → ℕ → Stats → Stats → Type 0
IsStatsTold (Ok done) code was now = code ≡ OK
IsStatsTold (Err told) code was now = (code ≡ told) × (now ≡ was)
