-- What the records of a text are under a header that stands in place of its first.
use Rattle.std.specs.Prelude.{◌≡◌, ◌+◌, ◌++◌, ◌==◌, ◌&&◌, ◌||◌, ℕ, Bool, true, false, not, List, [], ◌∷◌, bytes_eq, codes, get_or, if◌then◌else◌, length, map, nat_lt, replicate}
use Rattle.std.specs.List.{list_all}
use Rattle.csv.specs.Reading.{default_config, records, strip_bom}

-- the bytes of the fields of a record
abbrev pub Fields : Type 0
Fields = List (List ℕ)

-- fields of which the first has one more byte at its front
abbrev pub onto : ℕ → Fields → Fields
onto c [] = (c ∷ []) ∷ []
onto c (f ∷ fs) = (c ∷ f) ∷ fs

-- a text divided at its commas
abbrev pub words : List ℕ → Fields
words [] = [] ∷ []
words (c ∷ cs) = if c == 44 then [] ∷ words cs else onto c (words cs)

-- whether a word of the header that is asked for names a column: `-` has it passed by
abbrev pub is_named : List ℕ → Bool
is_named word = not (bytes_eq word (codes "-"))

-- the fields of a record that are kept, by the columns; those past the last column are
abbrev pub kept : List Bool → Fields → Fields
kept [] fields = fields
kept (k ∷ ks) [] = []
kept (k ∷ ks) (f ∷ fs) = if k then f ∷ kept ks fs else kept ks fs

-- how many columns are kept
abbrev pub kept_in : List Bool → ℕ
kept_in [] = 0
kept_in (k ∷ ks) = if k then kept_in ks + 1 else kept_in ks

-- a record has a field at least
abbrev pub or_empty : Fields → Fields
or_empty [] = [] ∷ []
or_empty (f ∷ fs) = f ∷ fs

-- the fields that are kept of a record that is too short: where they are none or all of n, some more make them n + 1
abbrev pub spoiled : ℕ → Fields → Fields
spoiled n [] = replicate (n + 1) []
spoiled n (f ∷ fs) = if length (f ∷ fs) == n then (f ∷ fs) ++ [] ∷ [] else f ∷ fs

-- A record without the fields that are passed by. So one with another number of fields than the text has columns has
-- another number than are kept.
abbrev pub record_under : List Bool → Fields → Fields
record_under keeps fields =
    if nat_lt (length fields) (length keeps) then spoiled (kept_in keeps) (kept keeps fields)
    else or_empty (kept keeps fields)

-- the header in place of the first record, and then the others
abbrev pub records_under : List ℕ → List Bool → List Fields → List Fields
records_under header keeps [] = []
records_under header keeps (first ∷ others) = words header ∷ map (record_under keeps) others

-- of three columns the second is passed by, in examples
abbrev pub without_second : List Bool
without_second = true ∷ false ∷ true ∷ []

-- no double quote, no line end, and no byte order mark at the front
abbrev pub is_plain_byte : ℕ → Bool
is_plain_byte c = not ((c == 34) || ((c == 13) || (c == 10)))

abbrev pub is_plain : List ℕ → Bool
is_plain header = list_all is_plain_byte header && not (get_or header 0 0 == 239)

-- The records of the bytes that go on are, under a plain header, those of the text with the header in place of the
-- first and without the fields that are passed by: so the table of those bytes, or its first fault, is that of these
-- records.
abbrev pub IsUnder : List ℕ → List Bool → List ℕ → List ℕ → Type 0
IsUnder header keeps text out = is_plain header ≡ true
    → records default_config (strip_bom out) ≡ records_under header keeps (records default_config (strip_bom text))
