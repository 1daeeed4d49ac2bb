-- The texts that a line makes known.
use Rattle.std.specs.Prelude.{ℕ, List, [], ◌∷◌, ◌++◌, length, nat_lt, if◌then◌else◌, ◌≡◌, true}
use Rattle.sw_rows.specs.Header.{Column, has_texts, holding, texts_of}
use Rattle.sw_rows.specs.Texts.{is_text, with_texts}
use Rattle.sw_lang.specs.declared.reading.parse.TheConstants.{MOST_LINE}
use Rattle.sw_lang.specs.Reading.{is_comment}
use Rattle.sw_lang.specs.Tokens.{Tok, quoted, tokens}

-- the text of a quoted token, where it may be the text of a cell
abbrev pub quoted_text : Tok → List (List ℕ)
quoted_text (quoted text) = if is_text text then text ∷ [] else []
quoted_text t = []

-- a token is a quoted text that may be the text of a cell
abbrev pub Quotes : Tok → List ℕ → Type 0
Quotes t text = (quoted_text t ≡ text ∷ []) × (is_text text ≡ true)

abbrev pub quoted_texts : List Tok → List (List ℕ)
quoted_texts [] = []
quoted_texts (t ∷ ts) = quoted_text t ++ quoted_texts ts

-- a comment and a line of more than 4,096 bytes have none
abbrev pub texts_in_line : List ℕ → List (List ℕ)
texts_in_line text =
    if nat_lt MOST_LINE (length text) then []
    else if is_comment text then []
    else quoted_texts (tokens text)

-- the attributes over the texts that they know and further ones
abbrev pub knowing : List (List ℕ) → List Column → List Column
knowing more schema = holding (with_texts (texts_of schema) more) schema

-- a schema that knows the texts of a line, where an attribute is of texts
abbrev pub learned : List Column → List ℕ → List Column
learned schema text = if has_texts schema then knowing (texts_in_line text) schema else schema
