-- What the reader finds in the file of a record, part by part, apart from the order in which it looks for faults.
use Rattle.std.specs.Prelude.{◌≡◌, ◌≤◌, IsUtf8, ℕ, true, List, [], ◌∷◌, codes, length, Some}
use Rattle.serde_json.specs.Data.{Data}
use Rattle.serde_json.specs.Read.{read}
use Rattle.sw_rows.specs.Header.{Column}
use Rattle.sw_lang.specs.Grammar.{IsLine}
use Rattle.sw_lang.specs.Learning.{learned}
use Rattle.sw_spine.specs.History.{History}
use Rattle.sw_spine.specs.declared.history.Entry.{Entry}
use Rattle.sw_spine.specs.declared.spine.TheConstants.{MOST_ENTRIES}
use Rattle.sw_histories.specs.RecordReading.{array_at, entry_learned, format_in, has_members, header_in, limit_in, may_stand, rows_in, session_in, state_in, text_at}

-- an object of three members: a line that is the call, where its texts are known, a call that may stand in a file of this
-- format, the session's number, and what has become of the call
pub record IsReadEntry (format : ℕ) (columns : List Column) (d : Data) (e : Entry) : Type 0 where
  pub members : has_members 3 d ≡ true
  pub text : List ℕ
  pub text_is : text_at (codes "call") d ≡ Some text
  pub call : IsLine (learned columns text) text (Some e.call)
  pub stands : may_stand format e.call ≡ true
  pub session : session_in d ≡ Some e.session
  pub state : state_in e.call d ≡ Some e.state

-- each value is an entry, over the attributes that know the texts of the calls before it; the last ones know all
abbrev pub AreReadEntries : ℕ → List Column → List Data → List Column → List Entry → Type 0
AreReadEntries format columns [] last [] = last ≡ columns
AreReadEntries format columns [] last (e ∷ es) = ⊥
AreReadEntries format columns (d ∷ ds) last [] = ⊥
AreReadEntries format columns (d ∷ ds) last (e ∷ es) =
    IsReadEntry format columns d e × AreReadEntries format (entry_learned columns d) ds last es

-- a JSON object of five members: the format, the header, the limit, the opening rows, and at most 1,048,576 entries;
-- texts are known from the rows on, and then from call to call
pub record IsReadRecord (bytes : List ℕ) (h : History) : Type 0 where
  pub utf8 : IsUtf8 bytes
  pub value : Data
  pub json : read bytes ≡ Some value
  pub members : has_members 5 value ≡ true
  pub named : List Column
  pub header : header_in value ≡ Some named
  pub format : ℕ
  pub format_is : format_in named value ≡ Some format
  pub limit : limit_in value ≡ Some h.limit
  pub known : List Column
  pub rows : rows_in named h.limit value ≡ Some (known, h.rows)
  pub items : List Data
  pub items_are : array_at (codes "entries") value ≡ Some items
  pub few : length items ≤ MOST_ENTRIES
  pub entries : AreReadEntries format known items h.columns h.entries
