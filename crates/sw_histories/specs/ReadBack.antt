-- Records whose text is read again.
use Rattle.std.specs.Prelude.{◌≡◌, ◌<◌, ◌≤◌, ◌^◌, ◌⊎◌, IsUtf8, ℕ, ℤ, pos, negsuc, true, List, [], ◌∷◌, ◌++◌, flat_map, All, map, IsSome, Some, Ok}
use Rattle.serde_json.specs.Read.{read}
use Rattle.sw_rows.specs.Header.{Column, IsSchema, has_texts, kinds_of, texts_of}
use Rattle.sw_rows.specs.Tables.{padded}
use Rattle.sw_rows.specs.Domains.{Domain}
use Rattle.sw_rows.specs.Domains as kind
use Rattle.sw_rows.specs.Texts.{text_at, with_texts}
use Rattle.sw_table.specs.declared.row.Row.{Row}
use Rattle.sw_query.specs.declared.query.Call.{Call}
use Rattle.sw_lang.specs.Grammar.{IsLine}
use Rattle.sw_lang.specs.Learning.{texts_in_line}
use Rattle.sw_lang.specs.PrintedCalls.{call_text}
use Rattle.sw_lang.specs.Replies.{reply_lines}
use Rattle.sw_spine.specs.History.{History, IsSound, entry, is_select}
use Rattle.sw_spine.specs.declared.history.Entry.{Entry}
use Rattle.sw_spine.specs.declared.history.State.{State}
use Rattle.sw_spine.specs.declared.history.State.TheVariants as state
use Rattle.sw_spine.specs.declared.spine.TheConstants.{MOST_SESSIONS}
use Rattle.sw_histories.specs.RecordReading.{record_at, row_texts}
use Rattle.sw_histories.specs.RecordText.{record_data, record_text, row_data}

-- a number of 64 signed bits
abbrev pub IsWord : ℤ → Type 0
IsWord (pos n) = n < 2 ^ 63
IsWord (negsuc n) = n < 2 ^ 63

-- the numbers of a record have 64 bits
pub record HasWords (h : History) : Type 0 where
  pub limit : h.limit < 2 ^ 64
  pub sessions : All (λ e. e.session < 2 ^ 64) h.entries
  pub cells : All (λ r. All IsWord r.cells) h.rows

-- serde_json reads the text of a record as the value that it is the text of
abbrev pub TextsAreJson : Type 0
TextsAreJson = (h : History) → HasWords h → read (record_text h) ≡ Some (record_data h)

-- ---- records of runs

-- a cell of the kind: a number of 64 bits, of flags 0 or 1, and of texts a code that some text has
abbrev pub IsCellOf : Domain → ℤ → Type 0
IsCellOf kind.Int z = IsWord z
IsCellOf (kind.Fix places) z = IsWord z
IsCellOf kind.Flag z = (z ≡ pos 0) ⊎ (z ≡ pos 1)
IsCellOf (kind.Text texts) z = IsSome (text_at texts z)

-- cells, one for each kind
abbrev pub AreCells : List Domain → List ℤ → Type 0
AreCells [] [] = Unit {0}
AreCells [] (z ∷ zs) = ⊥
AreCells (k ∷ ks) [] = ⊥
AreCells (k ∷ ks) (z ∷ zs) = IsCellOf k z × AreCells ks zs

-- a cell for each attribute, and 0 after the last one
abbrev pub HasCells : List Domain → Row → Type 0
HasCells kinds r = (cells : List ℤ) × AreCells kinds cells × (r.cells ≡ padded cells)

-- selects alone are open or void; lines that stand for a reply are texts
abbrev pub IsStateOf : Call → State → Type 0
IsStateOf c (state.Answered r) = Unit {0}
IsStateOf c (state.Lines ls) = All (λ l. IsUtf8 l) ls
IsStateOf c state.Open = is_select c ≡ true
IsStateOf c state.Void = is_select c ≡ true

-- a session's call, which some line gave
pub record IsCalled (columns : List Column) (e : Entry) : Type 0 where
  pub line : List ℕ
  pub call : IsLine columns line (Some e.call)
  pub first : 0 < e.session
  pub last : e.session ≤ MOST_SESSIONS
  pub state : IsStateOf e.call e.state

-- the texts in a record's file, as they are seen: those of the rows, and then those of the calls
abbrev pub texts_in_file : History → List (List ℕ)
texts_in_file h =
    flat_map (λ r. row_texts (row_data (kinds_of h.columns) r)) h.rows
    ++ flat_map (λ e. texts_in_line (call_text h.columns e.call)) h.entries

-- what holds of the record of a run: it is sound, of a table that was read, and its calls are those of lines
pub record IsOfRun (h : History) : Type 0 where
  pub sound : IsSound h
  pub schema : IsSchema h.columns
  pub cells : All (HasCells (kinds_of h.columns)) h.rows
  pub calls : All (IsCalled h.columns) h.entries

-- where an attribute is of texts, these are just the texts in the file, each once, in the order in which they are first
-- seen; who reads the file gives them their codes in that order
abbrev pub KnowsInOrder : History → Type 0
KnowsInOrder h = has_texts h.columns ≡ true → texts_of h.columns ≡ with_texts [] (texts_in_file h)

-- a reply as the lines that are printed for it
abbrev pub in_lines : List Column → Call → State → State
in_lines columns c (state.Answered r) = state.Lines (reply_lines columns c r)
in_lines columns c (state.Lines ls) = state.Lines ls
in_lines columns c state.Open = state.Open
in_lines columns c state.Void = state.Void

abbrev pub entry_in_lines : List Column → Entry → Entry
entry_in_lines columns e = entry e.session e.call (in_lines columns e.call e.state)

-- the record with lines for replies
abbrev pub with_lines : History → History
with_lines h = record h { entries = map (entry_in_lines h.columns) h.entries }

-- the text of a run's record is read as that record, with lines for replies, where its texts have their codes in order
abbrev pub RecordsAreReadBack : Type 0
RecordsAreReadBack = (h : History) → IsOfRun h → KnowsInOrder h → record_at (record_text h) ≡ Ok (with_lines h)
