-- The texts of cells, and the codes that stand for them.
use Rattle.std.specs.Prelude.{◌≡◌, ◌≤◌, ◌+◌, ◌-◌, ◌==◌, ◌&&◌, ◌||◌, if◌then◌else◌, fold, ℕ, ℤ, pos, negsuc, Bool, true, not, List, [], ◌∷◌, ◌++◌, length, map, nat_le, Option, None, option_map, Result, Ok, Err, position, slice_get, bytes_eq, String, string_bytes}
use Rattle.std.specs.List.{list_all, list_any}
use Rattle.std.specs.Option.{option_map_or}
use Rattle.std.specs.Str.{is_utf8}
use Rattle.std.specs.declared.alloc.Global.{Global}
use Rattle.indexmap.specs.IndexSet.{IndexSet}
use Rattle.sw_rows.specs.Faults.{Fault, too_many}
use Rattle.sw_rows.specs.declared.schema.text_key.TextKey.{TextKey}
use Rattle.sw_rows.specs.declared.schema.texts.TheConstants.{MOST_BYTES_OF_TEXT, MOST_TEXTS}

-- any byte but 0 to 31 and 127
abbrev pub is_text_byte : ℕ → Bool
is_text_byte byte = nat_le 32 byte && not (byte == 127)

-- the text of a cell: UTF-8 of few bytes, each of which a text may have; it may be empty
abbrev pub is_text : List ℕ → Bool
is_text bytes = is_utf8 bytes && nat_le (length bytes) MOST_BYTES_OF_TEXT && list_all is_text_byte bytes

-- whether a text is one of the texts
abbrev pub has_text : List (List ℕ) → List ℕ → Bool
has_text texts text = list_any (bytes_eq text) texts

-- the code of a text is its place among the texts, counted from 1
abbrev pub code_of : List (List ℕ) → List ℕ → Option ℕ
code_of texts text = option_map (λ place. place + 1) (position (bytes_eq text) texts)

-- the text that has a code
abbrev pub text_of : List (List ℕ) → ℕ → Option (List ℕ)
text_of texts code = if code == 0 then None else slice_get texts (code - 1)

-- the text that a cell stands for, if there is one
abbrev pub text_at : List (List ℕ) → ℤ → Option (List ℕ)
text_at texts (pos code) = text_of texts code
text_at texts (negsuc n) = None

-- whether there are as many texts as there may be
abbrev pub are_full : List (List ℕ) → Bool
are_full texts = nat_le MOST_TEXTS (length texts)

-- the texts and one more: a new text comes last, and a known one changes nothing, as one for which there is no code
abbrev pub with_text : List (List ℕ) → List ℕ → List (List ℕ)
with_text texts text = if has_text texts text || are_full texts then texts else texts ++ text ∷ []

-- the texts and further ones, in their order
abbrev pub with_texts : List (List ℕ) → List (List ℕ) → List (List ℕ)
with_texts texts more = fold with_text texts more

-- the code that a new text gets: the next, if there is one
abbrev pub next_code : List (List ℕ) → Result ℕ Fault
next_code texts = if are_full texts then Err (too_many MOST_TEXTS) else Ok (length texts + 1)

-- the code that a text has or gets
abbrev pub code_given : List (List ℕ) → List ℕ → Result ℕ Fault
code_given texts text = option_map_or (λ code. Ok code) (code_of texts text) (next_code texts)

-- a text is new, and there is no code for it
abbrev pub HasNoRoom : List (List ℕ) → List ℕ → Type 0
HasNoRoom texts text = code_given texts text ≡ Err (too_many MOST_TEXTS)

-- a code as the number of a cell
abbrev pub as_cell : Result ℕ Fault → Result ℤ Fault
as_cell (Ok code) = Ok (pos code)
as_cell (Err e) = Err e

abbrev pub cell_given : List (List ℕ) → List ℕ → Result ℤ Fault
cell_given texts text = as_cell (code_given texts text)

-- no text stands twice
abbrev pub texts_differ : List (List ℕ) → Bool
texts_differ [] = true
texts_differ (t ∷ ts) = not (has_text ts t) && texts_differ ts

-- few texts of cells, no two of them the same
pub record AreTexts (texts : List (List ℕ)) : Type 0 where
  pub few : length texts ≤ MOST_TEXTS
  pub sound : list_all is_text texts ≡ true
  pub distinct : texts_differ texts ≡ true

-- the texts of an indexed set, in its order
abbrev pub texts_of : IndexSet (String Global) TextKey → List (List ℕ)
texts_of s = map string_bytes s.keys
