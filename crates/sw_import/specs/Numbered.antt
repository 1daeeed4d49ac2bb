-- The texts for which numbers stand in a table, as they are told.
use Rattle.std.specs.Prelude.{◌+◌, ◌++◌, if◌then◌else◌, ℕ, List, [], ◌∷◌, codes, decimal, slice_index_or}
use Rattle.std.specs.List.{flat_map}
use Rattle.sw_rows.specs.Texts.{has_text}
use Rattle.sw_import.specs.declared.planning.Planned.{Planned}

-- texts and one more: a new one comes last, and a known one changes nothing
abbrev pub learned : List (List ℕ) → List ℕ → List (List ℕ)
learned texts text = if has_text texts text then texts else texts ++ text ∷ []

-- the record of the headings
abbrev pub dictionary_heading : List (List ℕ)
dictionary_heading = codes "column" ∷ codes "number" ∷ codes "text" ∷ []

-- the record of a text: the name of its column, its number and itself
abbrev pub numbered : List ℕ → ℕ → List ℕ → List (List ℕ)
numbered name number text = name ∷ decimal number ∷ text ∷ []

-- those of a column's texts, of which the first has this number
abbrev pub numbered_from : ℕ → List ℕ → List (List ℕ) → List (List (List ℕ))
numbered_from number name [] = []
numbered_from number name (text ∷ texts) = numbered name number text ∷ numbered_from (number + 1) name texts

-- that of the text at a place of a column's dictionary, whose number is one more
abbrev pub numbered_at : Planned → ℕ → List (List ℕ)
numbered_at p place = numbered p.column.name (place + 1) (slice_index_or p.dictionary place [])

-- those of all texts of a column
abbrev pub column_records : Planned → List (List (List ℕ))
column_records p = numbered_from 1 p.column.name p.dictionary

-- those of all columns, column by column, behind the headings
abbrev pub dictionary_records : List Planned → List (List (List ℕ))
dictionary_records plan = dictionary_heading ∷ flat_map column_records plan
