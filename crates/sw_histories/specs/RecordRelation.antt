-- Which bytes are the file of which record, apart from how it is read: the parts of the file stand beside one another.
use Rattle.std.specs.Prelude.{◌≡◌, ◌<◌, ◌≤◌, ◌+◌, ◌^◌, ◌⊎◌, IsUtf8, ℕ, ℤ, pos, true, List, [], ◌∷◌, codes, filter_map, length, Some}
use Rattle.serde_json.specs.Data.{Data, Members, negative, number, object, string, unsigned}
use Rattle.serde_json.specs.Events.{members_len}
use Rattle.serde_json.specs.Find.{as_str, get}
use Rattle.serde_json.specs.Read.{read}
use Rattle.sw_rows.specs.Domains.{Domain}
use Rattle.sw_rows.specs.Domains as kind
use Rattle.sw_rows.specs.Header.{Column, kinds_of}
use Rattle.sw_rows.specs.Spelling.{WritesCell, WritesHeader}
use Rattle.sw_rows.specs.Tables.{padded}
use Rattle.sw_query.specs.declared.query.Call.{Call}
use Rattle.sw_rows.specs.declared.table.TheConstants.{MOST_ROWS}
use Rattle.sw_table.specs.declared.row.Row.{Row}
use Rattle.sw_lang.specs.Grammar.{IsLine}
use Rattle.sw_lang.specs.Learning.{knowing, learned}
use Rattle.sw_spine.specs.History.{History, is_select}
use Rattle.sw_spine.specs.declared.history.Entry.{Entry}
use Rattle.sw_spine.specs.declared.history.State.{State}
use Rattle.sw_spine.specs.declared.history.State.TheVariants as state
use Rattle.sw_spine.specs.declared.spine.TheConstants.{MOST_ENTRIES, MOST_SESSIONS}
use Rattle.sw_histories.specs.RecordText.{is_delete_where, least_format, list_data, texts_data}

-- an object of so many members
abbrev pub HasMembers : ℕ → Data → Type 0
HasMembers n d = (ms : Members) × (d ≡ object ms) × (members_len ms ≡ n)

abbrev pub IsWithin : ℕ → ℕ → ℕ → Type 0
IsWithin least most n = (least ≤ n) × (n ≤ most)

-- ---- rows

-- a whole number of 64 signed bits
abbrev pub IsWhole : Data → ℤ → Type 0
IsWhole d z = ((n : ℕ) × (d ≡ number (unsigned n)) × (n < 2 ^ 63) × (z ≡ pos n)) ⊎ (d ≡ number (negative z))

-- a value stands for a cell: a whole number, of flags 0 or 1, and of texts the text, for which the cell has its code
abbrev pub IsCell : Domain → Data → ℤ → Type 0
IsCell kind.Int d z = IsWhole d z
IsCell (kind.Fix places) d z = IsWhole d z
IsCell kind.Flag d z = IsWhole d z × ((z ≡ pos 0) ⊎ (z ≡ pos 1))
IsCell (kind.Text texts) d z = (text : List ℕ) × (d ≡ string text) × WritesCell (kind.Text texts) text z

-- as many values as kinds, each a cell of its kind
abbrev pub AreCells : List Domain → List Data → List ℤ → Type 0
AreCells [] [] [] = Unit {0}
AreCells (k ∷ ks) (d ∷ ds) (z ∷ zs) = IsCell k d z × AreCells ks ds zs
AreCells ks ds zs = ⊥

-- the texts among values
abbrev pub texts_among : List Data → List (List ℕ)
texts_among ds = filter_map as_str ds

-- values stand for a row of these attributes
abbrev pub IsRow : List Column → ℕ → List Data → Row → Type 0
IsRow columns key ds r =
    (cells : List ℤ) × AreCells (kinds_of columns) ds cells × (r ≡ record { key = key; cells = padded cells })

-- an array for each row, over the attributes that know its texts and those of the rows before it; the last ones know
-- all; keys count on from the first
abbrev pub AreRows : List Column → ℕ → List Data → List Column → List Row → Type 0
AreRows columns key [] last [] = last ≡ columns
AreRows columns key [] last (r ∷ rs) = ⊥
AreRows columns key (d ∷ ds) last [] = ⊥
AreRows columns key (d ∷ ds) last (r ∷ rs) =
    (items : List Data) × (d ≡ list_data items) × IsRow (knowing (texts_among items) columns) key items r
    × AreRows (knowing (texts_among items) columns) (key + 1) ds last rs

-- ---- entries

-- the lines of a reply, or the word for a select that has none
abbrev pub IsReply : Call → Data → State → Type 0
IsReply c d (state.Answered r) = ⊥
IsReply c d (state.Lines ls) = d ≡ texts_data ls
IsReply c d state.Open = (d ≡ string (codes "open")) × (is_select c ≡ true)
IsReply c d state.Void = (d ≡ string (codes "void")) × (is_select c ≡ true)

-- an object of three members: a line that is the call, over the attributes that know its texts, the session's number,
-- and what has become of the call; calls that delete the rows under conditions stand in format 3
pub record IsEntry (format : ℕ) (columns : List Column) (d : Data) (text : List ℕ) (e : Entry) : Type 0 where
  pub members : HasMembers 3 d
  pub line : get (codes "call") d ≡ Some (string text)
  pub call : IsLine (learned columns text) text (Some e.call)
  pub stands : is_delete_where e.call ≡ true → format ≡ 3
  pub session : get (codes "session") d ≡ Some (number (unsigned e.session))
  pub sessions : IsWithin 1 MOST_SESSIONS e.session
  pub reply : Data
  pub reply_is : get (codes "reply") d ≡ Some reply
  pub state : IsReply e.call reply e.state

-- an object for each entry, over the attributes that know the texts of the calls before it; the last ones know all
abbrev pub AreEntries : ℕ → List Column → List Data → List Column → List Entry → Type 0
AreEntries format columns [] last [] = last ≡ columns
AreEntries format columns [] last (e ∷ es) = ⊥
AreEntries format columns (d ∷ ds) last [] = ⊥
AreEntries format columns (d ∷ ds) last (e ∷ es) =
    (text : List ℕ) × IsEntry format columns d text e × AreEntries format (learned columns text) ds last es

-- ---- the file

-- a JSON object of five members: the header, the format, which is one for these attributes, the limit, the opening rows,
-- no more than the limit, and at most 1,048,576 entries; texts are known from the rows on, and then from call to call
pub record IsRecord (bytes : List ℕ) (h : History) : Type 0 where
  pub utf8 : IsUtf8 bytes
  pub value : Data
  pub json : read bytes ≡ Some value
  pub members : HasMembers 5 value
  pub fields : List (List ℕ)
  pub fields_are : get (codes "attributes") value ≡ Some (texts_data fields)
  pub named : List Column
  pub header : WritesHeader fields named
  pub format : ℕ
  pub format_is : get (codes "format") value ≡ Some (number (unsigned format))
  pub formats : IsWithin (least_format named) 3 format
  pub limit_is : get (codes "limit") value ≡ Some (number (unsigned h.limit))
  pub limits : IsWithin 1 MOST_ROWS h.limit
  pub lines : List Data
  pub lines_are : get (codes "rows") value ≡ Some (list_data lines)
  pub few_rows : length lines ≤ h.limit
  pub known : List Column
  pub rows : AreRows named 1 lines known h.rows
  pub items : List Data
  pub items_are : get (codes "entries") value ≡ Some (list_data items)
  pub few : length items ≤ MOST_ENTRIES
  pub entries : AreEntries format known items h.columns h.entries
