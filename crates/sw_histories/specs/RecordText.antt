-- The text of a record: a JSON object, in which numbers are whole.
use Rattle.std.specs.Prelude.{◌≡◌, ◌++◌, Bool, ℕ, ℤ, List, [], ◌∷◌, codes, decimal, map, true, false, unwrap_or, if◌then◌else◌, Option, Result, IfErr, OnOk}
use Rattle.std.specs.List.{list_any}
use Rattle.serde_json.specs.Data.{Data, array, member, no_members, number, object, string, unsigned}
use Rattle.serde_json.specs.Find.{of_integer}
use Rattle.serde_json.specs.View.{items_of}
use Rattle.serde_json.specs.Written.{comma_if, compact_text}
use Rattle.sw_rows.specs.Domains.{Domain}
use Rattle.sw_rows.specs.Domains as kind
use Rattle.sw_rows.specs.Header.{Column, has_texts, kinds_of}
use Rattle.sw_rows.specs.Spelling.{kind_text}
use Rattle.sw_rows.specs.Texts.{text_at}
use Rattle.sw_table.specs.declared.row.Row.{Row}
use Rattle.sw_query.specs.declared.query.Call.{Call}
use Rattle.sw_query.specs.declared.query.Call.TheVariants as call
use Rattle.sw_rows.specs.Gives.{Raised}
use Rattle.sw_query.specs.declared.refusal.Refusal.{Refusal}
use Rattle.sw_query.specs.declared.refusal.Refusal.TheVariants as refusal
use Rattle.sw_lang.specs.PrintedCalls.{call_text}
use Rattle.sw_lang.specs.Sinks.{Took, TookBeginning}
use Rattle.sw_lang.specs.Replies.{reply_lines}
use Rattle.sw_spine.specs.History.{History}
use Rattle.sw_spine.specs.declared.history.Entry.{Entry}
use Rattle.sw_spine.specs.declared.history.State.{State}
use Rattle.sw_spine.specs.declared.history.State.TheVariants as state

abbrev pub list_data : List Data → Data
list_data ds = array (items_of ds)

-- an attribute, with its type
abbrev pub attribute_text : Column → List ℕ
attribute_text c = c.0 ++ (codes ":" ++ kind_text c.1)

abbrev pub texts_data : List (List ℕ) → Data
texts_data ts = list_data (map (λ t. string t) ts)

-- the attributes, each with its type
abbrev pub attributes_data : List Column → Data
attributes_data columns = texts_data (map attribute_text columns)

-- a stored cell as a number; of texts the text of the code, and an empty one where no text has it
abbrev pub cell_data : Domain → ℤ → Data
cell_data kind.Int z = number (of_integer z)
cell_data (kind.Fix places) z = number (of_integer z)
cell_data kind.Flag z = number (of_integer z)
cell_data (kind.Text texts) z = string (unwrap_or (text_at texts z) [])

-- a cell of each kind
abbrev pub cells_data : List Domain → List ℤ → List Data
cells_data [] zs = []
cells_data (k ∷ ks) [] = []
cells_data (k ∷ ks) (z ∷ zs) = cell_data k z ∷ cells_data ks zs

abbrev pub row_data : List Domain → Row → Data
row_data kinds r = list_data (cells_data kinds r.cells)

abbrev pub rows_data : List Domain → List Row → Data
rows_data kinds rs = list_data (map (row_data kinds) rs)

-- the least number of the format for a table of these attributes, which tells whether cells may be texts
abbrev pub least_format : List Column → ℕ
least_format columns = if has_texts columns then 2 else 1

-- whether a call deletes the rows under conditions
abbrev pub is_delete_where : Call → Bool
is_delete_where (call.Select q) = false
is_delete_where (call.Insert cells) = false
is_delete_where (call.Delete key) = false
is_delete_where (call.DeleteWhere conds) = true

-- whether the call of an entry does
abbrev pub has_delete_where : List Entry → Bool
has_delete_where es = list_any (λ e. is_delete_where e.call) es

-- the number of the format: 3 where a call deletes the rows under conditions, and the least one elsewhere
abbrev pub format_of : List Column → List Entry → ℕ
format_of columns es = if has_delete_where es then 3 else least_format columns

-- the lines of a reply, or the word for a call that has none
abbrev pub state_data : List Column → Call → State → Data
state_data columns c (state.Answered r) = texts_data (reply_lines columns c r)
state_data columns c (state.Lines ls) = texts_data ls
state_data columns c state.Open = string (codes "open")
state_data columns c state.Void = string (codes "void")

abbrev pub entry_data : List Column → Entry → Data
entry_data columns e =
    object (member (codes "call") (string (call_text columns e.call))
    (member (codes "reply") (state_data columns e.call e.state)
    (member (codes "session") (number (unsigned e.session)) no_members)))

abbrev pub entries_data : List Column → List Entry → Data
entries_data columns es = list_data (map (entry_data columns) es)

-- the five members of the file
abbrev pub whole_data : Data → Data → ℕ → ℕ → Data → Data
whole_data attributes entries format limit rows =
    object (member (codes "attributes") attributes
    (member (codes "entries") entries
    (member (codes "format") (number (unsigned format))
    (member (codes "limit") (number (unsigned limit))
    (member (codes "rows") rows no_members)))))

abbrev pub record_data : History → Data
record_data h =
    whole_data (attributes_data h.columns) (entries_data h.columns h.entries)
    (format_of h.columns h.entries) h.limit (rows_data (kinds_of h.columns) h.rows)

-- the bytes of a record's file: no blanks, and in each object the keys ascend
unfoldable pub record_text : History → List ℕ
record_text h = compact_text (record_data h)

-- a text and then what stands before the rows
abbrev pub front_text : List ℕ → History → List ℕ
front_text before h =
    before ++ codes "{\"attributes\":" ++ compact_text (attributes_data h.columns)
    ++ codes ",\"entries\":" ++ compact_text (entries_data h.columns h.entries)
    ++ codes ",\"format\":" ++ decimal (format_of h.columns h.entries) ++ codes ",\"limit\":" ++ decimal h.limit

-- a text and then what stands before the entries
abbrev pub opening_text : List ℕ → List Column → List ℕ
opening_text before columns =
    before ++ codes "{\"attributes\":" ++ compact_text (attributes_data columns) ++ codes ",\"entries\":"

-- a text and then the format and the limit
abbrev pub numbers_text : List ℕ → ℕ → ℕ → List ℕ
numbers_text before format limit =
    before ++ codes ",\"format\":" ++ decimal format ++ codes ",\"limit\":" ++ decimal limit

-- a text and then the rows and the end
abbrev pub closing_text : List ℕ → List Column → List Row → List ℕ
closing_text before columns rows =
    before ++ codes ",\"rows\":" ++ compact_text (rows_data (kinds_of columns) rows) ++ codes "}"

-- what stands before the items of the entries, and, in a record of a format, what stands behind them
abbrev pub before_text : List Column → List ℕ
before_text columns = opening_text [] columns ++ codes "["

abbrev pub behind_text : ℕ → History → List ℕ
behind_text format h = closing_text (numbers_text (codes "]") format h.limit) h.columns h.rows

-- an item of an array: a comma, where one stands before it, and its text
abbrev pub item_text : Bool → Data → List ℕ
item_text is_later d = comma_if is_later ++ compact_text d

-- items of an array, one after another, and then a text
abbrev pub items_then : Bool → List Data → List ℕ → List ℕ
items_then is_later [] after = after
items_then is_later (d ∷ ds) after = item_text is_later d ++ items_then true ds after

-- these bytes were put behind those that stood there; or that is refused
abbrev pub Puts : {A E : Type 0} → Result A E → List ℕ → List ℕ → List ℕ → Type 0
Puts result old new bytes = OnOk result (new ≡ old ++ bytes)

-- what a refusal of a writer leaves: without memory nothing was written; after a failure a beginning of the text was
abbrev pub Stops : Option (List ℕ) → Option (List ℕ) → ℕ → ℕ → List ℕ → Refusal → Type 0
Stops old new failed_old failed_new text refusal.NoMemory = (new ≡ old) × (failed_new ≡ failed_old)
Stops old new failed_old failed_new text refusal.Output = TookBeginning old new text × Raised failed_old failed_new
Stops old new failed_old failed_new text other = ⊥

-- a text went out whole, and the count f of failures stands; or the refusal tells how much of it did
pub record WritesText (old new : Option (List ℕ)) (f g : ℕ) (result : Result (Unit {0}) Refusal) (text : List ℕ)
    : Type 0 where
  pub whole : OnOk result (Took old new text × (g ≡ f))
  pub part : IfErr result (Stops old new f g text)

-- the text of a record did so
abbrev pub WritesRecord : History → Option (List ℕ) → Option (List ℕ) → ℕ → ℕ → Result (Unit {0}) Refusal → Type 0
WritesRecord h old new f g result = WritesText old new f g result (record_text h)
