-- Short cells of printed ASCII, which are texts.
use Rattle.std.proofs.Common.{◌≡◌, ◌<◌, ◌≤◌, ℕ, zero, suc, true, List, [], ◌∷◌, length, refl, arith, IsAscii}
use Rattle.std.proofs.lemmas.Bool.{and_from, and_parts}
use Rattle.std.proofs.lemmas.Str.{IsUtf8-from_ascii}
use Rattle.std.specs.List.{list_all}
use Rattle.sw_rows.proofs.Schemas.TextLemmas.{text_read}
use Rattle.sw_rows.specs.Texts.{is_text, is_text_byte}
use Rattle.sw_rows.specs.declared.schema.texts.TheConstants.{MOST_BYTES_OF_TEXT}
use Rattle.sw_import.specs.Made.{is_plain_byte}

below : (b : ℕ) → is_plain_byte b ≡ true → b < 128
below b h = grind arith

printed : (b : ℕ) → is_plain_byte b ≡ true → is_text_byte b ≡ true
printed b h = grind arith

ascii : (bytes : List ℕ) → list_all is_plain_byte bytes ≡ true → IsAscii bytes
ascii [] h i = omega arith
ascii (b ∷ bytes) h zero = below b (and_parts (is_plain_byte b) (list_all is_plain_byte bytes) h).0
ascii (b ∷ bytes) h (suc i) = ascii bytes (and_parts (is_plain_byte b) (list_all is_plain_byte bytes) h).1 i

all_printed : (bytes : List ℕ) → list_all is_plain_byte bytes ≡ true → list_all is_text_byte bytes ≡ true
all_printed [] h = refl
all_printed (b ∷ bytes) h =
    let parts = and_parts (is_plain_byte b) (list_all is_plain_byte bytes) h in
    and_from (is_text_byte b) (list_all is_text_byte bytes) (printed b parts.0) (all_printed bytes parts.1)

-- a short cell of printed ASCII is a text
pub plain_text : (bytes : List ℕ) → length bytes ≤ MOST_BYTES_OF_TEXT → list_all is_plain_byte bytes ≡ true → is_text bytes ≡ true
plain_text bytes short plain = text_read bytes (IsUtf8-from_ascii bytes (ascii bytes plain)) short (all_printed bytes plain)
