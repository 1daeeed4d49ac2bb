-- What is written of a cell, and of a record.
use Rattle.std.specs.Prelude.{◌||◌, ◌&&◌, if◌then◌else◌, ℕ, zero, suc, Bool, true, false, not, List, [], ◌∷◌, ◌++◌, length, map, take, min, decimal, codes, bytes_eq, nat_eq, Option, Some, None, is_some, option_map, slice_index_or, nat_le, nat_lt}
use Rattle.std.specs.Fmt.{signed_decimal}
use Rattle.std.specs.Str.{is_utf8}
use Rattle.sw_rows.specs.Cells.{cell_value}
use Rattle.sw_rows.specs.Texts.{code_of, is_text}
use Rattle.sw_rows.specs.declared.schema.texts.TheConstants.{MOST_BYTES_OF_TEXT}
use Rattle.sw_import.specs.Dates.{days_of, seconds_of}
use Rattle.sw_import.specs.Forms.{flag_of, number_domain, takes_blanks}
use Rattle.sw_import.specs.declared.forms.Form.{Form}
use Rattle.sw_import.specs.declared.forms.Form.TheVariants as form
use Rattle.sw_import.specs.declared.making.Made.{Made}
use Rattle.sw_import.specs.declared.making.Made.TheVariants as made
use Rattle.sw_import.specs.declared.planning.Planned.{Planned}
use Rattle.sw_import.specs.declared.rules.Blank.{Blank}
use Rattle.sw_import.specs.declared.rules.Blank.TheVariants as blank
use Rattle.sw_import.specs.declared.rules.Long.{Long}
use Rattle.sw_import.specs.declared.rules.Long.TheVariants as long
use Rattle.sw_import.specs.declared.rules.Rules.{Rules}
use denote.Ref.{Bor}

-- a text is written, a row is left out, or the cell is none of its form
pub data Outcome : Type 0 where
  Written : List ℕ → Outcome
  LeftOut : Outcome
  Refused : Outcome

-- what a function answers of a cell
abbrev pub outcome_of : Made → Outcome
outcome_of (made.Bytes bytes) = Written bytes.now
outcome_of (made.Number n) = Written (signed_decimal n)
outcome_of (made.Code n) = Written (decimal n)
outcome_of made.LeftOut = LeftOut
outcome_of made.Refused = Refused

abbrev pub if_some : Option (List ℕ) → Outcome
if_some None = Refused
if_some (Some text) = Written text

abbrev pub flag_text : Bool → List ℕ
flag_text true = codes "true"
flag_text false = codes "false"

-- a byte of printed ASCII
abbrev pub is_plain_byte : ℕ → Bool
is_plain_byte byte = nat_le 32 byte && nat_lt byte 127

-- the longest beginning of at most so many bytes that may be the text of a cell
abbrev pub longest_within : ℕ → List ℕ → List ℕ
longest_within zero cell = []
longest_within (suc n) cell = if is_text (take (suc n) cell) then take (suc n) cell else longest_within n cell

abbrev pub longest_text : List ℕ → List ℕ
longest_text cell = longest_within (min (length cell) MOST_BYTES_OF_TEXT) cell

-- a cell of UTF-8 that may be no text of a cell
abbrev pub long_text : Long → List ℕ → Outcome
long_text long.Refuse cell = Refused
long_text long.Cut cell = Written (longest_text cell)
long_text long.Drop cell = LeftOut
long_text long.Number cell = Refused

-- a cell that may be no text of a cell: one that is not UTF-8 is refused, whatever was chosen
abbrev pub long_cell : Long → List ℕ → Outcome
long_cell l cell = if is_utf8 cell then long_text l cell else Refused

-- a cell that has a value: a number as it stands, a flag in lower case, the number of a time or of a text, or a text
abbrev pub value_cell : Long → Form → List (List ℕ) → List ℕ → Outcome
value_cell l (form.Number places) texts cell =
    if is_some (cell_value (number_domain places) cell) then Written cell else Refused
value_cell l form.Flag texts cell = if_some (option_map flag_text (flag_of cell))
value_cell l form.Seconds texts cell = if_some (option_map signed_decimal (seconds_of cell))
value_cell l form.Days texts cell = if_some (option_map signed_decimal (days_of cell))
value_cell l form.Text texts cell = if is_text cell then Written cell else long_cell l cell
value_cell l form.Code texts cell =
    if is_utf8 cell then if_some (option_map (λ n. decimal n) (code_of texts cell)) else Refused

abbrev pub is_word : Option (Bor (List ℕ)) → List ℕ → Bool
is_word None cell = false
is_word (Some word) cell = bytes_eq cell word.now

-- a cell without a value: it is empty, or the word for that
abbrev pub is_blank : Rules → List ℕ → Bool
is_blank rules cell = nat_eq (length cell) 0 || is_word rules.null cell

abbrev pub blank_cell : Blank → Long → Form → List (List ℕ) → Outcome
blank_cell blank.Refuse l f texts = Refused
blank_cell blank.Drop l f texts = LeftOut
blank_cell blank.Text l f texts = Refused
blank_cell (blank.Value value) l f texts = value_cell l f texts value.now

-- a cell of a form, whose texts have these numbers
abbrev pub cell_made : Rules → Form → List (List ℕ) → List ℕ → Outcome
cell_made rules f texts cell =
    if takes_blanks f || not (is_blank rules cell) then value_cell rules.long f texts cell
    else blank_cell rules.blank rules.long f texts

-- a column: the place of its cells in a record, what they are, and the texts for which numbers stand
pub record Source : Type 0 where
  pub place : ℕ
  pub form : Form
  pub texts : List (List ℕ)

abbrev pub source_of : Planned → Source
source_of p = record { place = p.column.place; form = p.form; texts = p.dictionary }

abbrev pub sources_of : List Planned → List Source
sources_of plan = map source_of plan

-- a record is written, left out for the column at a place, or refused
pub data Kept : Type 0 where
  Row : List (List ℕ) → Kept
  NoRow : ℕ → Kept
  Fault : Kept

-- what comes of the cell of the column at a place
abbrev pub then_more : ℕ → Outcome → (List ℕ → Kept) → Kept
then_more place (Written text) more = more text
then_more place LeftOut more = NoRow place
then_more place Refused more = Fault

-- the fields after those done, from the left
abbrev pub row_after : Rules → List (List ℕ) → List Source → List (List ℕ) → Kept
row_after rules done [] fields = Row done
row_after rules done (s ∷ ss) fields =
    then_more (length done) (cell_made rules s.form s.texts (slice_index_or fields s.place []))
    (λ text. row_after rules (done ++ text ∷ []) ss fields)

-- these fields, or no row where it is left out
abbrev pub row_or : Option ℕ → List (List ℕ) → Kept
row_or None fields = Row fields
row_or (Some place) fields = NoRow place

-- what is written of a record
abbrev pub row_made : Rules → List Source → List (List ℕ) → Kept
row_made rules sources fields = row_after rules [] sources fields
