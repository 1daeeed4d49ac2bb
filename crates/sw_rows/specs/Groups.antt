-- Records that are read together, codes of their texts, and the rows that they become.
use Rattle.std.specs.Prelude.{◌≡◌, ◌≢◌, ◌≤◌, ◌+◌, ◌*◌, ◌++◌, ◌∷◌, ℕ, ℤ, Bool, true, List, [], get_or, length, map, take, Some, if◌then◌else◌}
use Rattle.csv.specs.Records.{fields_of}
use Rattle.csv.specs.declared.record.ByteRecord.{ByteRecord}
use Rattle.sw_rows.specs.Tables.{row_of}
use Rattle.sw_rows.specs.Texts.{code_of, is_text}
use Rattle.sw_rows.specs.declared.schema.texts.TheConstants.{MOST_TEXTS}
use Rattle.sw_rows.specs.declared.table.group.TheConstants.{TOGETHER}
use Rattle.sw_rows.specs.declared.table.seen.SeenCodes.{SeenCodes}
use Rattle.sw_table.specs.Packed.{Packed}

-- the records in the first places
abbrev pub records_in : ℕ → List ByteRecord → List (List (List ℕ))
records_in many places = map fields_of (take many places)

-- so many records stand in the first places, no more than are read together
abbrev pub StandFirst : ℕ → List ByteRecord → Type 0
StandFirst many places = (many ≤ length places) × (many ≤ TOGETHER)

-- the records of a group, and behind them those that are left, where there may be more
abbrev pub group_and : Bool → List (List (List ℕ)) → List (List (List ℕ)) → List (List (List ℕ))
group_and more group left = group ++ (if more then left else [])

-- the code that a text has among others
pub record HasCode (texts : List (List ℕ)) (text : List ℕ) (code : ℕ) : Type 0 where
  pub coded : code_of texts text ≡ Some code
  pub sound : is_text text ≡ true
  pub few : code ≤ MOST_TEXTS

-- a number other than 0 is the text's code
abbrev pub IsCodeOrZero : List (List ℕ) → List ℕ → ℕ → Type 0
IsCodeOrZero texts text code = code ≢ 0 → HasCode texts text code

-- the same of each field of a record
abbrev pub AreSeen : List (List ℕ) → List (List ℕ) → List ℕ → Type 0
AreSeen texts fields codes = (attr : ℕ) → IsCodeOrZero texts (get_or fields attr []) (get_or codes attr 0)

-- and of each record of a group
abbrev pub AreAllSeen : List (List ℕ) → List (List (List ℕ)) → SeenCodes → Type 0
AreAllSeen texts group seen = (place : ℕ) → AreSeen texts (get_or group place []) (get_or seen.codes place [])

-- so many rows of n cells each
pub record AreWhole (n many : ℕ) (cells : List ℤ) : Type 0 where
  pub some : 1 ≤ n
  pub most : n ≤ 8
  pub whole : length cells ≡ many * n

-- rows and one more of these cells behind them, with the next key
abbrev pub with_row : List ℤ → Packed → Packed
with_row cells p = record p { items = p.items ++ row_of (length p.items + 1) cells ∷ [] }
