-- The records of a text, and what a reader over memory has left of them.
use Rattle.std.specs.Prelude.{◌≡◌, ◌+◌, ◌∷◌, ◌||◌, ◌&&◌, if◌then◌else◌, ℕ, Bool, true, false, List, [], length, nat_eq, nat_lt, Option, Some, slice_index_or}
use Rattle.std.specs.List.{list_all}
use Rattle.std.specs.Option.{option_map_or}
use denote.Ref.{Bor}
use Rattle.csv.specs.declared.parser.Config.{Config}
use Rattle.csv.specs.Records.{Row, fields_of}
use Rattle.csv.specs.declared.reader.Reader.{Reader}
use Rattle.csv.specs.declared.reader.Trim.TheVariants as trim
use Rattle.csv.specs.declared.parser.State.{State}
use Rattle.csv.specs.Reading.{Ready, default_config, has_failed, is_flexible, reader_config, reader_state, reader_trim, records, records_from, source_of, strip_bom}

-- how values are read that this byte divides
abbrev pub divided_by : ℕ → Config
divided_by delimiter = record default_config { delimiter = delimiter }

-- the records of a text
abbrev pub records_of : ℕ → List ℕ → List (List (List ℕ))
records_of delimiter text = records (divided_by delimiter) (strip_bom text)

-- how many fields the first record of a text has
abbrev pub width_of : ℕ → List ℕ → ℕ
width_of delimiter text = length (slice_index_or (records_of delimiter text) 0 [])

-- a record may have so many fields where the first has this many: as many, or fewer where short ones are filled
abbrev pub takes_fields : Bool → ℕ → ℕ → Bool
takes_fields fills width fields = nat_eq fields width || (nat_lt fields width && fills)

-- the same of all these records
abbrev pub are_even : Bool → ℕ → List (List (List ℕ)) → Bool
are_even fills width records = list_all (λ r. takes_fields fills width (length r)) records

-- the records of a text from a state
abbrev pub records_at : Config → State → List ℕ → List (List (List ℕ))
records_at cfg s xs = records_from cfg (length xs + 1) s xs

-- the text that a reader over memory has left
abbrev pub text_left : Reader (Bor (List ℕ)) → Option (List ℕ)
text_left rdr = source_of (λ (s : Bor (List ℕ)). Some s.now) rdr

-- the records that a reader over memory has left
abbrev pub records_left : Reader (Bor (List ℕ)) → List (List (List ℕ))
records_left rdr = option_map_or (records_at (reader_config rdr) (reader_state rdr)) (text_left rdr) []

-- the first record that a reader had left was read, where one was found; else it had none
abbrev pub TakesRecord : Reader (Bor (List ℕ)) → Reader (Bor (List ℕ)) → Row → Bool → Type 0
TakesRecord old new row found =
    records_left old ≡ (if found then fields_of row ∷ records_left new else [])

-- a reader of every record, each of any length, with no header row
pub record IsOpen (rdr : Reader (Bor (List ℕ))) : Type 0 where
  pub trim : reader_trim rdr ≡ trim.None
  pub flexible : is_flexible rdr ≡ true
  pub going : has_failed rdr ≡ false
  pub ready : Ready rdr
