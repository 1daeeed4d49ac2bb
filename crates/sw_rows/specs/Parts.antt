-- Rows that were read in parts, each part with records of its own from 1.
use Rattle.std.specs.Prelude.{◌≡◌, ◌+◌, ◌≤◌, ◌==◌, ◌<◌, ◌^◌, All, get_or, if◌then◌else◌, ℕ, ℤ, pos, Bool, true, not, List, [], ◌∷◌, ◌++◌, length, map, nat_lt, slice_get, Some, Result, Ok, Err, IfSome, Option}
use Rattle.std.specs.List.{list_all}
use Rattle.csv.specs.Reading.{default_config, records}
use Rattle.sw_rows.specs.Domains.{Domain, is_of_texts, under}
use Rattle.sw_rows.specs.Gives.{Gives, Fails}
use Rattle.sw_rows.specs.Header.{Column, Fault, bad_table, kinds_of, too_many, header_of}
use Rattle.sw_rows.specs.Tables.{◌>>=◌, rows_after, texts_in}
use Rattle.sw_rows.specs.Texts.{code_of, with_texts}
use Rattle.sw_query.specs.declared.refusal.Refusal.{Refusal}
use Rattle.sw_rows.specs.declared.table.TheConstants.{MOST_ROWS}
use Rattle.sw_rows.specs.declared.loading.text_parts.Part.{Part}
use Rattle.sw_table.specs.Exchanged.{exchanged}
use Rattle.sw_table.specs.Packed.{Packed, row_behind}
use Rattle.sw_table.specs.declared.row.Row.{Row}

-- no byte is a double quote
abbrev pub has_no_quote : List ℕ → Bool
has_no_quote bytes = list_all (λ c. not (c == 34)) bytes

-- where it is known that no byte is a double quote, none is
abbrev pub IsKnownQuoteless : Bool → List ℕ → Type 0
IsKnownQuoteless is_known bytes = is_known ≡ true → has_no_quote bytes ≡ true

-- no byte order mark begins here
abbrev pub begins_plain : List ℕ → Bool
begins_plain bytes = not (get_or bytes 0 0 == 239)

-- a part that may be read under these attributes
abbrev pub MayBeRead : Bool → List Column → List ℕ → Type 0
MayBeRead is_quoteless columns part =
    IsKnownQuoteless is_quoteless part × (begins_plain part ≡ true) × (0 < length columns)

-- few rows of n cells, of which each key can be raised
pub record IsPart (n : ℕ) (part : Packed) : Type 0 where
  pub few : length part.items ≤ MOST_ROWS
  pub keys : All (λ r. r.key < 2 ^ 63) part.items
  pub width : part.width ≡ n

-- a fault of a record behind n others
abbrev pub fault_behind : ℕ → Fault → Fault
fault_behind n (bad_table rec field) =
    if nat_lt MOST_ROWS (n + rec) then too_many MOST_ROWS else bad_table (n + rec) field
fault_behind n (too_many limit) = too_many MOST_ROWS

-- the rows of a part, by its records
abbrev pub rows_of_part : List Column → List ℕ → Result (List Row) Fault
rows_of_part columns part = rows_after (kinds_of columns) [] (records default_config part)

-- the rows that were read are those of a text, or the refusal tells of its fault
abbrev pub GivesRows : Result Packed Refusal → Result (List Row) Fault → Type 0
GivesRows result read = Gives ⊥ (λ (p : Packed). p.items) result read

-- the records of a text are those of its two parts
abbrev pub AreRecordsOfBoth : List ℕ → List ℕ → List ℕ → Type 0
AreRecordsOfBoth first rest whole =
    records default_config whole ≡ records default_config first ++ records default_config rest

-- what comes of a part behind rows
abbrev pub rows_behind : List Row → Result (List Row) Fault → Result (List Row) Fault
rows_behind rows (Ok more) =
    if nat_lt MOST_ROWS (length rows + length more)
    then Err (too_many MOST_ROWS)
    else Ok (rows ++ map (row_behind (length rows)) more)
rows_behind rows (Err e) = Err (fault_behind (length rows) e)

-- what comes of two parts; the first fault in order decides
abbrev pub rows_joined : Result (List Row) Fault → Result (List Row) Fault → Result (List Row) Fault
rows_joined first rest = first >>= λ rows. rows_behind rows rest

-- what the refusal of a part is behind so many rows
abbrev pub FailsBehind : ℕ → Refusal → Refusal → Type 0
FailsBehind count alone behind = (rows : List Row) (read : Result (List Row) Fault)
    → length rows ≡ count → Fails ⊥ alone read → Fails ⊥ behind (rows_behind rows read)

-- what two parts give together
abbrev pub GivesBoth : Result Packed Refusal → Result Packed Refusal → Result Packed Refusal → Type 0
GivesBoth first rest both = (a b : Result (List Row) Fault)
    → GivesRows first a → GivesRows rest b → GivesRows both (rows_joined a b)

-- a text is one record, the header of these attributes
abbrev pub IsHeader : List ℕ → List Column → Type 0
IsHeader text columns = (h : List (List ℕ)) × (records default_config text ≡ h ∷ []) × (header_of h ≡ Ok columns)

-- a part with texts of its own, by its records: each of its texts once, in the order in which they are first seen, and
-- its rows, which are the same over these and any further texts
pub record IsRead (columns : List Column) (text : List ℕ) (read : Part) : Type 0 where
  pub texts : read.texts ≡ with_texts [] (texts_in (kinds_of columns) (records default_config text))
  pub rows : (more : List (List ℕ)) → rows_after (under (with_texts read.texts more) (kinds_of columns)) []
      (records default_config text) ≡ Ok read.rows.items
  pub part : IsPart (length columns) read.rows

-- what is made of two parts, if anything, is their text read as one
abbrev pub JoinsParts : List Column → Part → Part → Option Part → Type 0
JoinsParts columns first rest joined = (a b whole : List ℕ) → AreRecordsOfBoth a b whole
    → IsRead columns a first → IsRead columns b rest → IfSome joined (IsRead columns whole)

-- a code for each of some texts, in their order: that which it has among others
abbrev pub AreCodes : List (List ℕ) → List (List ℕ) → List ℤ → Type 0
AreCodes texts others codes = (place : ℕ) (text : List ℕ) → slice_get texts place ≡ Some text
    → (code : ℕ) × (code_of others text ≡ Some code) × (slice_get codes place ≡ Some (pos code))

-- cells with those of texts exchanged for other codes
abbrev pub cells_exchanged : List Domain → List ℤ → List ℤ → List ℤ
cells_exchanged [] codes cells = cells
cells_exchanged (d ∷ ds) codes [] = []
cells_exchanged (d ∷ ds) codes (z ∷ zs) = (if is_of_texts d then exchanged codes z else z) ∷ cells_exchanged ds codes zs

abbrev pub row_exchanged : List Domain → List ℤ → Row → Row
row_exchanged ds codes r = record r { cells = cells_exchanged ds codes r.cells }
