-- Which text is a record's file, and what is the first fault of another one. Line 0 is what stands outside the entries.
use Rattle.std.specs.Prelude.{◌≡◌, ◌<◌, ◌≤◌, ◌+◌, ◌++◌, ◌==◌, ◌&&◌, ◌||◌, ℕ, ℤ, pos, Bool, true, false, not, List, [], ◌∷◌, bytes_eq, codes, filter_map, length, nat_le, Option, Some, None, Result, Ok, Err, option_and_then, option_map, unwrap_or, if◌then◌else◌}
use Rattle.std.specs.Ordering.{int_eq}
use Rattle.std.specs.Result.{result_ok}
use Rattle.std.specs.Str.{is_utf8}
use Rattle.serde_json.specs.Data.{Data, Items, array, boolean, item, no_items, null, number, object, string}
use Rattle.serde_json.specs.Events.{members_len}
use Rattle.serde_json.specs.Find.{as_array, as_i64, as_number, as_str, as_u64, get}
use Rattle.serde_json.specs.Read.{read}
use Rattle.sw_rows.specs.Header.{Column, header_of, kinds_of}
use Rattle.sw_rows.specs.Tables.{padded, row_of}
use Rattle.sw_rows.specs.Texts.{code_of, is_text}
use Rattle.sw_rows.specs.Domains.{Domain}
use Rattle.sw_rows.specs.Domains as kind
use Rattle.sw_table.specs.declared.row.Row.{Row}
use Rattle.sw_query.specs.declared.query.Call.{Call}
use Rattle.sw_query.specs.declared.refusal.Refusal.{Refusal}
use Rattle.sw_query.specs.declared.refusal.Refusal.TheVariants.{BadLine, TooMany}
use Rattle.sw_query.specs.declared.refusal.Why.TheVariants as why
use Rattle.sw_lang.specs.Learning.{knowing, learned}
use Rattle.sw_lang.specs.Reading.{line_at, refused}
use Rattle.sw_rows.specs.declared.table.TheConstants.{MOST_ROWS}
use Rattle.sw_spine.specs.declared.spine.TheConstants.{MOST_ENTRIES, MOST_SESSIONS}
use Rattle.sw_spine.specs.Table.{is_numbered}
use Rattle.sw_spine.specs.History.{History, entry, is_select}
use Rattle.sw_spine.specs.declared.history.Entry.{Entry}
use Rattle.sw_spine.specs.declared.history.State.{State}
use Rattle.sw_spine.specs.declared.history.State.TheVariants as state
use Rattle.sw_histories.specs.RecordText.{is_delete_where, least_format}
use Rattle.sw_histories.specs.Told.{◌>>=◌}

-- ---- parts of a value

abbrev pub items_list : Items → List Data
items_list no_items = []
items_list (item d ds) = d ∷ items_list ds

-- the items of the array that is the member of a name
abbrev pub array_at : List ℕ → Data → Option (List Data)
array_at name d = option_map items_list (option_and_then as_array (get name d))

-- the whole number that is the member of a name
abbrev pub number_at : List ℕ → Data → Option ℕ
number_at name d = option_and_then as_u64 (option_and_then as_number (get name d))

-- an object has this many members
abbrev pub has_members : ℕ → Data → Bool
has_members n null = false
has_members n (boolean b) = false
has_members n (number x) = false
has_members n (string s) = false
has_members n (array ds) = false
has_members n (object ms) = members_len ms == n

-- texts, after those that stand before; there is none where an item is no text
abbrev pub texts_after : List (List ℕ) → List Data → Option (List (List ℕ))
texts_after done [] = Some done
texts_after done (d ∷ ds) = option_and_then (λ t. texts_after (done ++ t ∷ []) ds) (as_str d)

-- ---- outside the entries

-- the texts that are the items of the array that is the member of a name
abbrev pub texts_at : List ℕ → Data → Option (List (List ℕ))
texts_at name d = option_and_then (texts_after []) (array_at name d)

-- the attributes of the header
abbrev pub header_in : Data → Option (List Column)
header_in d = option_and_then (λ ts. result_ok (header_of ts)) (texts_at (codes "attributes") d)

abbrev pub in_range : ℕ → ℕ → ℕ → Option ℕ
in_range least most n = if nat_le least n && nat_le n most then Some n else None

-- from 1 to 1,048,576
abbrev pub limit_in : Data → Option ℕ
limit_in d = option_and_then (in_range 1 MOST_ROWS) (number_at (codes "limit") d)

-- the number of the format: 1, 2 or 3, and not 1 where an attribute is of texts
abbrev pub format_in : List Column → Data → Option ℕ
format_in columns d = option_and_then (in_range (least_format columns) 3) (number_at (codes "format") d)

abbrev pub columns_under : Data → List Column → Option (List Column × ℕ)
columns_under d columns = option_map (λ format. (columns, format)) (format_in columns d)

-- those attributes beside the format, where it is one for them
abbrev pub columns_in : Data → Option (List Column × ℕ)
columns_in d = option_and_then (columns_under d) (header_in d)

-- ---- rows

-- the text that a value is, where it may be the text of a cell
abbrev pub text_in : Data → Option (List ℕ)
text_in d = option_and_then (λ s. if is_text s then Some s else None) (as_str d)

-- the texts of a row, from the left
abbrev pub row_texts : Data → List (List ℕ)
row_texts d = unwrap_or (option_map (λ ds. filter_map text_in (items_list ds)) (as_array d)) []

-- attributes that know the texts of a row
abbrev pub row_learned : List Column → Data → List Column
row_learned columns d = knowing (row_texts d) columns

-- a number is a cell of a kind: of flags 0 or 1, and of texts none
abbrev pub of_kind : Domain → ℤ → Option ℤ
of_kind kind.Int z = Some z
of_kind (kind.Fix places) z = Some z
of_kind kind.Flag z = if int_eq z (pos 0) || int_eq z (pos 1) then Some z else None
of_kind (kind.Text texts) z = None

-- a whole number of 64 signed bits that is a cell of the kind
abbrev pub number_in : Domain → Data → Option ℤ
number_in k d = option_and_then (of_kind k) (option_and_then as_i64 (as_number d))

-- a cell of the kind: of texts the code of a text, of another one a number
abbrev pub cell_in : Domain → Data → Option ℤ
cell_in kind.Int d = number_in kind.Int d
cell_in (kind.Fix places) d = number_in (kind.Fix places) d
cell_in kind.Flag d = number_in kind.Flag d
cell_in (kind.Text texts) d = option_and_then (λ t. option_map pos (code_of texts t)) (text_in d)

-- the cells of kinds, after those that stand before
abbrev pub cells_after : List ℤ → List Domain → List Data → Option (List ℤ)
cells_after done [] ds = Some done
cells_after done (k ∷ ks) [] = Some done
cells_after done (k ∷ ks) (d ∷ ds) = option_and_then (λ z. cells_after (done ++ z ∷ []) ks ds) (cell_in k d)

abbrev pub cells_of : List Domain → List Data → Option (List ℤ)
cells_of kinds ds = if length ds == length kinds then option_map padded (cells_after [] kinds ds) else None

abbrev pub row_in : List Domain → Data → Option (List ℤ)
row_in kinds d = option_and_then (λ ds. cells_of kinds (items_list ds)) (as_array d)

-- the cells of a row under attributes that know its texts
abbrev pub row_read : List Column → Data → Option (List ℤ)
row_read columns d = row_in (kinds_of (row_learned columns d)) d

-- rows, and behind them one more of these cells, with the next key
abbrev pub with_row : List Row → List ℤ → List Row
with_row done cells = done ++ row_of (length done + 1) cells ∷ []

-- rows, after those that stand before, beside the attributes that know their texts; keys are 1, 2, 3 and so on
abbrev pub rows_after : List Column → List Row → List Data → Option (List Column × List Row)
rows_after columns done [] = Some (columns, done)
rows_after columns done (d ∷ ds) =
    option_and_then (λ cells. rows_after (row_learned columns d) (with_row done cells) ds) (row_read columns d)

-- at most as many as the limit
abbrev pub rows_up_to : List Column → ℕ → List Data → Option (List Column × List Row)
rows_up_to columns limit ds = if nat_le (length ds) limit then rows_after columns [] ds else None

abbrev pub rows_in : List Column → ℕ → Data → Option (List Column × List Row)
rows_in columns limit d = option_and_then (rows_up_to columns limit) (array_at (codes "rows") d)

-- ---- the part outside the entries

-- the table, the format, the limit, and the entries that are not read yet
pub record Frame : Type 0 where
  pub columns : List Column
  pub format : ℕ
  pub limit : ℕ
  pub rows : List Row
  pub items : List Data

abbrev pub frame : List Column → ℕ → ℕ → List Row → List Data → Frame
frame columns format limit rows items =
    record { columns = columns; format = format; limit = limit; rows = rows; items = items }

-- the frame of this format and this limit, and of these rows beside the attributes that know their texts
abbrev pub frame_with : Data → ℕ → ℕ → List Column × List Row → Option Frame
frame_with d format limit r = option_map (λ items. frame r.0 format limit r.1 items) (array_at (codes "entries") d)

-- of these columns, this format and this limit
abbrev pub frame_within : Data → List Column × ℕ → ℕ → Option Frame
frame_within d c limit = option_and_then (frame_with d c.1 limit) (rows_in c.0 limit d)

-- of these columns and this format
abbrev pub frame_by : Data → List Column × ℕ → Option Frame
frame_by d c = option_and_then (frame_within d c) (limit_in d)

abbrev pub frame_in : Data → Option Frame
frame_in d = option_and_then (frame_by d) (columns_in d)

-- an object of exactly these five members
abbrev pub frame_of : Data → Option Frame
frame_of d = if has_members 5 d then frame_in d else None

-- ---- entries

-- the fault of line n
abbrev pub or_fault : {A : Type 0} → ℕ → Option A → Result A Refusal
or_fault n None = Err (BadLine n why.History)
or_fault n (Some x) = Ok x

abbrev pub text_at : List ℕ → Data → Option (List ℕ)
text_at name d = option_and_then as_str (get name d)

-- `call`, which is a text, beside `session`
abbrev pub session_call : Data → Option (List ℕ)
session_call d = option_and_then (λ s. text_at (codes "call") d) (get (codes "session") d)

-- an object of just `call`, which is a text, `reply` and `session`
abbrev pub has_call : Data → Option (List ℕ)
has_call d = if has_members 3 d then option_and_then (λ r. session_call d) (get (codes "reply") d) else None

-- whether a call may stand in a file of this format: one that deletes the rows under conditions does so in format 3
abbrev pub may_stand : ℕ → Call → Bool
may_stand format c = not (is_delete_where c) || format == 3

abbrev pub under_format : ℕ → Call → Option Call
under_format format c = if may_stand format c then Some c else None

-- the call of a line, whose texts are made known first; a line that is no call is no entry's, nor is a call that may
-- not stand there
abbrev pub call_in : ℕ → List Column → ℕ → List ℕ → Result Call Refusal
call_in format columns n text =
    refused n (line_at (learned columns text) text) >>= or_fault n >>= λ c. or_fault n (under_format format c)

-- from 1 to 1,024
abbrev pub session_in : Data → Option ℕ
session_in d = option_and_then (in_range 1 MOST_SESSIONS) (number_at (codes "session") d)

-- the word for a select that is open or void
abbrev pub word_in : Call → List ℕ → Option State
word_in c word =
    if is_select c && bytes_eq word (codes "open") then Some state.Open
    else if is_select c && bytes_eq word (codes "void") then Some state.Void
    else None

-- lines, or such a word
abbrev pub state_of : Call → Data → Option State
state_of c null = None
state_of c (boolean b) = None
state_of c (number x) = None
state_of c (string s) = word_in c s
state_of c (array ds) = option_map (λ ls. state.Lines ls) (texts_after [] (items_list ds))
state_of c (object ms) = None

abbrev pub state_in : Call → Data → Option State
state_in c d = option_and_then (state_of c) (get (codes "reply") d)

abbrev pub entry_with : Call → Data → Option Entry
entry_with c d = option_and_then (λ s. option_map (λ st. entry s c st) (state_in c d)) (session_in d)

-- its members, then its call, then its session and its reply
abbrev pub entry_in : ℕ → List Column → ℕ → Data → Result Entry Refusal
entry_in format columns n d =
    or_fault n (has_call d) >>= λ text. (call_in format columns n text >>= λ c. or_fault n (entry_with c d))

-- attributes that know the texts of an entry's call
abbrev pub entry_learned : List Column → Data → List Column
entry_learned columns d = learned columns (unwrap_or (text_at (codes "call") d) [])

-- entries, after those that stand before, beside the attributes that know the texts of their calls
abbrev pub entries_after : ℕ → List Column → List Entry → List Data → Result (List Column × List Entry) Refusal
entries_after format columns done [] = Ok (columns, done)
entries_after format columns done (d ∷ ds) =
    entry_in format columns (length done + 1) d >>= λ e.
    entries_after format (entry_learned columns d) (done ++ e ∷ []) ds

-- ---- the file

abbrev pub history_with : Frame → List Column × List Entry → History
history_with f r = record { columns = r.0; rows = f.rows; limit = f.limit; entries = r.1 }

-- the number of entries is looked at before them
abbrev pub entries_of : Frame → Result History Refusal
entries_of f =
    if nat_le (length f.items) MOST_ENTRIES
    then (entries_after f.format f.columns [] f.items >>= λ r. Ok (history_with f r))
    else Err (TooMany MOST_ENTRIES)

abbrev pub history_of : Data → Result History Refusal
history_of d = or_fault 0 (frame_of d) >>= entries_of

-- JSON that is UTF-8
abbrev pub json_of : List ℕ → Option Data
json_of bytes = if is_utf8 bytes then read bytes else None

-- the record of a text, or its first fault: what stands outside the entries, then their number, then entries in order
unfoldable pub record_at : List ℕ → Result History Refusal
record_at bytes = or_fault 0 (json_of bytes) >>= history_of

-- what holds of the part outside the entries
pub record IsFrame (f : Frame) : Type 0 where
  pub some : 0 < f.limit
  pub most : f.limit ≤ MOST_ROWS
  pub few : length f.rows ≤ f.limit
  pub numbered : is_numbered 1 f.rows ≡ true
