-- The name of an attribute, as it is printed.
use Rattle.std.proofs.Common.{◌≡◌, ◌∙◌, ap, sym, refl, ℕ, ◌<◌, ◌≤◌, Bool, true, false, not, ◌&&◌, List, [], length, get_or, nat_lt, nat_le, ltb-true, leb-true, slice_index}
use Rattle.std.specs.Char.{is_ascii_digit}
use Rattle.std.specs.List.{list_all}
use Rattle.std.proofs.lemmas.Bool.{and_parts, false≢true}
use Rattle.std.proofs.lemmas.List.{get_or-map, length-map}
use Rattle.std.proofs.lemmas.List.Folds.{list_all_at}
use Rattle.std.proofs.lemmas.Option.{slice_get-get_or}
use Rattle.sw_rows.proofs.Tables.CellSpelling.{all_like}
use Rattle.sw_rows.specs.Header.{Column, IsSchema, is_name, is_name_byte, is_reserved, names_of}
use Rattle.sw_rows.specs.Header.{is_word}
use Rattle.sw_rows.specs.Domains as kind
use Rattle.sw_lang.specs.Grammar.{IsName}
use Rattle.sw_lang.specs.PrintedCalls.{name_at}
use Rattle.sw_lang.specs.Tokens.{word, is_word_byte}
use Rattle.sw_lang.proofs.Printed.Tokens.{IsRun}

-- one word of at most 32 bytes
pub record IsNameWord (w : List ℕ) : Type 0 where
  pub run : IsRun w
  pub short : length w ≤ 32

name-byte : (b : ℕ) → is_name_byte b ≡ true → is_word_byte b ≡ true
name-byte b h = rw h refl

-- a name may stand as a word
pub word_of : (w : List ℕ) → is_name w ≡ true → IsNameWord w
word_of w h =
    let word_is : is_word w ≡ true = (and_parts (is_word w) (not (is_reserved w)) h).0 in
    let front = and_parts (nat_lt 0 (length w) && list_all is_name_byte w && not (is_ascii_digit (slice_index w 0))) (nat_le (length w) 32) word_is in
    let bytes = and_parts (nat_lt 0 (length w) && list_all is_name_byte w) (not (is_ascii_digit (slice_index w 0))) front.0 in
    let some = and_parts (nat_lt 0 (length w)) (list_all is_name_byte w) bytes.0 in
    record {
      run = record { some = ltb-true 0 (length w) some.0; bytes = all_like is_name_byte is_word_byte name-byte w some.1 };
      short = leb-true (length w) 32 front.1;
    }

no_column : Column
no_column = ([], kind.Int)

all-true : (v : Bool) (cols : List Column) (i : ℕ) → is_name (get_or cols i no_column).0 ≡ v → i < length cols → list_all (λ c. is_name c.0) cols ≡ true → v ≡ true
all-true true cols i e h all = refl
all-true false cols i e h all = absurd (false≢true (sym (list_all_at (λ c. is_name c.0) cols i no_column h e) ∙ all))

-- the name of an attribute may stand as a word
pub name_word : (schema : List Column) (a : ℕ) → IsSchema schema → a < length schema → IsNameWord (name_at schema a)
name_word schema a ok h =
    let here : name_at schema a ≡ (get_or schema a no_column).0 = get_or-map (λ c. c.0) schema a no_column [] h in
    let good : is_name (get_or schema a no_column).0 ≡ true = all-true (is_name (get_or schema a no_column).0) schema a refl h ok.sound.names in
    word_of (name_at schema a) (ap is_name here ∙ good)

-- the word of the name of an attribute is related to it
pub name_is : (schema : List Column) (a : ℕ) → a < length schema → IsName schema (word (name_at schema a)) a
name_is schema a h =
    let within : a < length (names_of schema) = rw length-map h in
    (name_at schema a, refl, slice_get-get_or (names_of schema) a [] within)
