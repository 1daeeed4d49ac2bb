-- Tables as columns of numbers.
use Rattle.std.specs.Prelude.{◌<◌, ◌+◌, ◌*◌, ◌-◌, ◌==◌, ◌&&◌, ◌||◌, if◌then◌else◌, ℕ, zero, suc, ℤ, pos, Bool, true, false, not, List, [], ◌∷◌, ◌++◌, length, map, take, drop, codes, nat_le, nat_lt, slice_get, unwrap_or, is_some, is_none, Option, None, Some, Result, Ok, Err, All}
use Rattle.sw_rows.specs.Domains.{Domain}
use Rattle.sw_rows.specs.Domains as kind
use Rattle.sw_rows.specs.Faults.{Fault, bad_table, too_many}
use Rattle.sw_rows.specs.Header.{Column, has_texts, header_of, holding, is_name, texts_of}
use Rattle.sw_rows.specs.Spelling.{kind_text}
use Rattle.sw_rows.specs.Tables.{◌>>=◌, Table, padded}
use Rattle.sw_rows.specs.Texts.{cell_given, code_of, is_text, with_text}
use Rattle.sw_query.specs.declared.query.Call.{Call}
use Rattle.sw_query.specs.declared.query.Call.TheVariants as call
use Rattle.sw_rows.specs.declared.table.TheConstants.{MOST_ROWS}
use Rattle.sw_table.specs.declared.row.Row.{Row}
use Rattle.sw_lang.specs.Replies.{kind_at}
use Rattle.sw_arrays.specs.Asked.{is_cell}
use Rattle.sw_arrays.specs.declared.columns.Cells.{Cells}
use Rattle.sw_arrays.specs.declared.columns.Place.{Place}
use Rattle.sw_arrays.specs.declared.header.Attribute.{Attribute}
use Rattle.sw_arrays.specs.declared.table.Given.{Given}

-- ---- cells of columns

-- the cell of a row, which stands so many places behind that of the row before
abbrev pub cell_in : Cells → ℕ → Option ℤ
cell_in c row = slice_get c.cells.now (row * c.stride)

-- a column has a cell of a row, and columns of each of so many rows
abbrev pub HasCell : ℕ → Cells → Type 0
HasCell row c = row * c.stride < length c.cells.now

abbrev pub HaveCells : ℕ → List Cells → Type 0
HaveCells many columns = (row : ℕ) → row < many → All (HasCell row) columns

abbrev pub is_cell_there : Domain → Option ℤ → Bool
is_cell_there d None = false
is_cell_there d (Some z) = is_cell d z

-- the first of so many rows of a column, from one on, that has no cell of the kind; rows count from 1
abbrev pub first_lacking : Domain → Cells → ℕ → ℕ → Option ℕ
first_lacking d c row zero = None
first_lacking d c row (suc many) =
    if is_cell_there d (cell_in c row) then first_lacking d c (row + 1) many else Some (row + 1)

-- whether any number is a cell of the kind
abbrev pub is_of_numbers : Domain → Bool
is_of_numbers kind.Int = true
is_of_numbers (kind.Fix places) = true
is_of_numbers kind.Flag = false
is_of_numbers (kind.Text texts) = false

-- whether the last of so many rows has a cell, or there is no row
abbrev pub has_last : Cells → ℕ → Bool
has_last c many = (many == 0) || is_some (cell_in c (many - 1))

-- the cells of a row
abbrev pub row_cells : List Cells → ℕ → List ℤ
row_cells columns row = map (λ c. unwrap_or (cell_in c row) (pos 0)) columns

-- the same, with zeros after them
abbrev pub cells_at : List Cells → ℕ → List ℤ
cells_at columns row = padded (row_cells columns row)

-- the cells of the first rows, one row's after another's
abbrev pub flat_cells : List Cells → ℕ → List ℤ
flat_cells columns zero = []
flat_cells columns (suc many) = flat_cells columns many ++ row_cells columns many

-- the first rows of columns, whose keys are 1, 2, 3 and so on
abbrev pub rows_in : List Cells → ℕ → List Row
rows_in columns zero = []
rows_in columns (suc many) = rows_in columns many ++ record { key = many + 1; cells = cells_at columns many } ∷ []

-- the insert of a row
abbrev pub insert_at : List Cells → ℕ → Call
insert_at columns row = call.Insert (cells_at columns row)

-- ---- headers

-- the kind of a number: 0 of int, 1 to 6 of so many decimals, 7 of flag, 8 of text
abbrev pub kind_numbered : ℕ → Option Domain
kind_numbered number =
    if number == 0 then Some kind.Int
    else if number == 7 then Some kind.Flag
    else if number == 8 then Some (kind.Text [])
    else if nat_lt number 7 then Some (kind.Fix number)
    else None

-- the word of a kind, if there is one
abbrev pub kind_word : Option Domain → List ℕ
kind_word None = []
kind_word (Some d) = kind_text d

-- the field of a header that a name and a kind's number spell; of what is no name, an empty one
abbrev pub field_of : Attribute → List ℕ
field_of a = if is_name a.name.now then a.name.now ++ codes ":" ++ kind_word (kind_numbered a.kind) else []

-- ---- texts

-- a text that attributes may know, and do not
abbrev pub is_new_text : List Column → List ℕ → Bool
is_new_text columns text = has_texts columns && is_text text && not (is_some (code_of (texts_of columns) text))

-- the bytes from one place to another
abbrev pub between : ℕ → ℕ → List ℕ → List ℕ
between start end bytes = take (end - start) (drop start bytes)

-- whether a new text stands from one place to another
abbrev pub ends_new : List Column → List ℕ → ℕ → ℕ → Bool
ends_new columns bytes start end =
    nat_le start end && nat_le end (length bytes) && is_new_text columns (between start end bytes)

-- bytes that are a new text, and those from one place to another, if they are one
abbrev pub new_text : List Column → List ℕ → Option (List ℕ)
new_text columns bytes = if is_new_text columns bytes then Some bytes else None

abbrev pub text_between : List Column → List ℕ → ℕ → ℕ → Option (List ℕ)
text_between columns bytes start end =
    if ends_new columns bytes start end then Some (between start end bytes) else None

-- attributes that know one text more
abbrev pub knowing_one : List Column → List ℕ → List Column
knowing_one columns text = holding (with_text (texts_of columns) text) columns

-- attributes that know texts, each of which ends at its place and begins where the one before it ends; the first that is
-- no new text is a fault of the header, whose fields go on with the texts
abbrev pub knowing : ℕ → List ℕ → ℕ → List ℕ → List Column → Result (List Column) Fault
knowing field bytes start [] columns = Ok columns
knowing field bytes start (end ∷ ends) columns =
    if ends_new columns bytes start end
    then (cell_given (texts_of columns) (between start end bytes)
    >>= λ code. knowing (field + 1) bytes end ends (knowing_one columns (between start end bytes)))
    else Err (bad_table 0 field)

-- ---- tables

abbrev pub columns_in : List Attribute → List Cells
columns_in attributes = map (λ a. a.cells) attributes

abbrev pub few_rows : ℕ → Result ℕ Fault
few_rows many = if nat_lt MOST_ROWS many then Err (too_many MOST_ROWS) else Ok many

-- the first cell that columns lack from an attribute on, column by column
abbrev pub or_later : ℕ → Option Place → Option ℕ → Option Place
or_later attr later None = later
or_later attr later (Some row) = Some (record { row = row; column = attr + 1 })

abbrev pub lacking_in : List Column → ℕ → ℕ → List Cells → Option Place
lacking_in schema many attr [] = None
lacking_in schema many attr (c ∷ cs) =
    or_later attr (lacking_in schema many (attr + 1) cs) (first_lacking (kind_at schema attr) c 0 many)

-- columns of cells of each attribute, for so many rows
abbrev pub are_rows : List Column → List Cells → ℕ → Bool
are_rows schema columns many = (length columns == length schema) && is_none (lacking_in schema many 0 columns)

abbrev pub none_lacking : Option Place → Result (Unit {0}) Fault
none_lacking None = Ok tt
none_lacking (Some p) = Err (bad_table p.row p.column)

-- the table that columns spell, or the first fault: of the header, of the number of rows, of the texts, of the cells
abbrev pub table_in : Given → Result Table Fault
table_in g =
    header_of (map field_of g.attributes.now) >>= λ columns. few_rows g.rows
    >>= λ many. knowing (length columns + 1) g.texts.now 0 g.ends.now columns
    >>= λ known. none_lacking (lacking_in known many 0 (columns_in g.attributes.now))
    >>= λ there. Ok (record { columns = known; rows = rows_in (columns_in g.attributes.now) many })
