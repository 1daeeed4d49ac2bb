-- What a table that was made is.
use Rattle.std.specs.Prelude.{◌≡◌, ◌<◌, ◌⊎◌, ◌∷◌, ◌++◌, if◌then◌else◌, ℕ, Bool, true, false, List, [], length, map, min, drop, take, codes, nat_eq, Option, Some, None, Ok, is_some, unwrap_or, slice_index_or}
use Rattle.std.specs.List.{count_by, filter_map, list_any}
use Rattle.sw_rows.specs.Tables.{Table, table_of}
use Rattle.sw_rows.specs.declared.table.TheConstants.{MOST_ROWS}
use Rattle.sw_import.specs.Forms.{word_of}
use Rattle.sw_import.specs.Made.{Fault, Kept, NoRow, Row, Source, row_made, sources_of}
use Rattle.sw_import.specs.Pages.{text_of}
use Rattle.sw_import.specs.Records.{are_even, records_of, width_of}
use Rattle.sw_import.specs.declared.importing.How.{How}
use Rattle.sw_import.specs.declared.importing.Imported.{Imported}
use Rattle.sw_import.specs.declared.planning.Planned.{Planned}
use Rattle.sw_import.specs.declared.rules.Rules.{Rules}
use Rattle.sw_import.specs.declared.writing.Done.{Done}

-- bytes that the reader of tables takes
abbrev pub IsTable : List ℕ → Type 0
IsTable bytes = (t : Table) × (table_of bytes ≡ Ok t)

-- the records of a text that are rows of values: all but that of the headings
abbrev pub rows_in : Bool → ℕ → List ℕ → List (List (List ℕ))
rows_in has_header delimiter text = drop (if has_header then 1 else 0) (records_of delimiter text)

-- the row that a record makes, if it makes one
abbrev pub row_if : Kept → Option (List (List ℕ))
row_if (Row cells) = Some cells
row_if (NoRow place) = None
row_if Fault = None

-- the rows that records make, in order
abbrev pub rows_made : Rules → List Source → List (List (List ℕ)) → List (List (List ℕ))
rows_made rules sources records = filter_map (λ r. row_if (row_made rules sources r)) records

-- how many rows the first n of some records make
abbrev pub rows_by : ℕ → Rules → List Source → List (List (List ℕ)) → ℕ
rows_by n rules sources records = length (rows_made rules sources (take n records))

abbrev pub is_fault : Kept → Bool
is_fault (Row cells) = false
is_fault (NoRow place) = false
is_fault Fault = true

-- whether one of some records is refused
abbrev pub has_fault : Rules → List Source → List (List (List ℕ)) → Bool
has_fault rules sources records = list_any (λ r. is_fault (row_made rules sources r)) records

-- whether a record is left out for the column at a place
abbrev pub is_left_out : ℕ → Kept → Bool
is_left_out place (Row cells) = false
is_left_out place (NoRow at) = nat_eq at place
is_left_out place Fault = false

-- how many of some records are left out for the column at a place
abbrev pub left_out_for : ℕ → Rules → List Source → List (List (List ℕ)) → ℕ
left_out_for place rules sources records = count_by (λ r. is_left_out place (row_made rules sources r)) records

-- of each column, how many rows were told as left out for it
abbrev pub left_out_of : List Done → List ℕ
left_out_of done = map (λ d. d.left_out.count) done

-- that number of the column at a place
abbrev pub told_for : ℕ → List Done → ℕ
told_for place done = slice_index_or (left_out_of done) place 0

-- the field of a header for a column: its name and its kind
abbrev pub heading_of : Planned → List ℕ
heading_of p = p.column.name ++ codes ":" ++ word_of p.form

abbrev pub header_of : List Planned → List (List ℕ)
header_of plan = map heading_of plan

-- how many rows a table has at most, of which a sample may be asked for
abbrev pub most_rows : Option ℕ → ℕ
most_rows sample = min (unwrap_or sample MOST_ROWS) MOST_ROWS

-- a sample has fewer rows than it may have; where none is asked for there is no such bound
abbrev pub WantsMore : Option ℕ → ℕ → Type 0
WantsMore sample rows = is_some sample ≡ true → rows < most_rows sample

-- a sample has as many rows as it may have
abbrev pub IsFull : Option ℕ → ℕ → Type 0
IsFull sample rows = (is_some sample ≡ true) × (rows ≡ most_rows sample)

-- Records were taken one by one, in order, until none was left or the sample was full, and each while it wanted a row. None
-- was refused. The text is the header and then the row that each made, and for each column as many were told as left out as
-- there were.
pub record AreWritten (rules : Rules) (plan : List Planned) (sample : Option ℕ) (records : List (List (List ℕ))) (text : List ℕ) (count : ℕ) (done : List Done) : Type 0 where
  pub taken : List (List (List ℕ))
  pub left : List (List (List ℕ))
  pub whole : records ≡ taken ++ left
  pub until : (left ≡ []) ⊎ IsFull sample count
  pub wanted : (n : ℕ) → n < length taken → WantsMore sample (rows_by n rules (sources_of plan) taken)
  pub sound : has_fault rules (sources_of plan) taken ≡ false
  pub bytes : text ≡ text_of (header_of plan ∷ rows_made rules (sources_of plan) taken)
  pub rows : count ≡ length (rows_made rules (sources_of plan) taken)
  pub left_out : (place : ℕ) → place < length plan → told_for place done ≡ left_out_for place rules (sources_of plan) taken

-- What was made of a text: its rows have as many fields as its first record, or fewer where those are filled, they are written by
-- the columns of the plan, and as many are told as read as there are.
pub record IsImportOf (how : How) (text : List ℕ) (made : Imported) : Type 0 where
  pub even : are_even how.fills_short (width_of how.delimiter text) (rows_in how.has_header how.delimiter text) ≡ true
  pub read : made.read ≡ length (rows_in how.has_header how.delimiter text)
  pub written : AreWritten how.rules made.plan.items how.sample (rows_in how.has_header how.delimiter text) made.bytes.items made.written made.done.items
