-- A run: what it starts from, and what it leaves.
use Rattle.std.specs.Prelude.{◌≡◌, ◌<◌, ◌+◌, ◌++◌, ◌&&◌, ℕ, Bool, true, false, List, [], ◌∷◌, length, map, nat_le, nat_lt, slice_index_or, Option, Result, Ok, Err, if◌then◌else◌}
use Rattle.sw_rows.specs.declared.loading.TheConstants.{MOST_BYTES}
use Rattle.sw_rows.specs.Header.{Column, Fault, bad_table, too_many}
use Rattle.sw_rows.specs.Tables.{bytes_within, table_of}
use Rattle.sw_table.specs.declared.row.Row.{Row}
use Rattle.sw_table.specs.declared.row.Update.{Update}
use Rattle.sw_query.specs.declared.query.Call.{Call}
use Rattle.sw_query.specs.declared.refusal.Refusal.{Refusal}
use Rattle.sw_query.specs.declared.refusal.Refusal.TheVariants.{BadTable, TooMany}
use Rattle.sw_lang.specs.Cuts.{CutLists}
use Rattle.sw_lang.specs.CutsReading.{cuts_at}
use Rattle.sw_lang.specs.Reading.{refused}
use Rattle.sw_lang.specs.Replies.{reply_bytes}
use Rattle.sw_lang.specs.Sinks.{Took, TookBeginning}
use Rattle.sw_spine.specs.History.{History, IsLegal, all_given, is_absent, mine}
use Rattle.sw_spine.specs.Rest.{none_open}
use Rattle.sw_spine.specs.Table.{opened, reply_to, updates_then}
use Rattle.sw_histories.specs.Told.{◌>>=◌}
use Rattle.sw_engine.specs.Own.{own}
use Rattle.sw_cli.specs.Outcomes.{AllLeft, AllSayWhy, Outcome, all_answered, answered, calls_of, sessions_from, text_of}
use Rattle.sw_cli.specs.Script.{Script, blocks_of}

-- ---- what a run starts from

-- a table, a script and cuts that were read: the attributes with the texts that are known after the script, the rows,
-- the calls of the script's blocks, and for each attribute the values at which its head is cut
pub record Start : Type 0 where
  pub columns : List Column
  pub rows : List Row
  pub blocks : List (List Call)
  pub cuts : CutLists

-- the refusal of a fault in a table
abbrev pub refusal_of : Fault → Refusal
refusal_of (bad_table rec field) = BadTable rec field
refusal_of (too_many limit) = TooMany limit

abbrev pub or_refusal : {A : Type 0} → Result A Fault → Result A Refusal
or_refusal (Ok x) = Ok x
or_refusal (Err f) = Err (refusal_of f)

-- no more rows than the limit
abbrev pub rows_within : ℕ → List Row → Result (List Row) Refusal
rows_within limit rows = if nat_lt limit (length rows) then Err (TooMany limit) else Ok rows

-- what the bytes of a script spell; a script has at most 268,435,456 bytes
abbrev pub script_of : List Column → List ℕ → Result Script Refusal
script_of columns bytes = or_refusal (bytes_within MOST_BYTES bytes) >>= blocks_of columns

-- the cuts that a text spells
abbrev pub cuts_of : List Column → List ℕ → Result CutLists Refusal
cuts_of columns text = refused 0 (cuts_at columns text)

-- the bytes of the table are looked at first, then those of the script, then the text of the cuts, and then the rows
-- are held against the limit; the first fault in that order is the refusal
abbrev pub start_of : ℕ → List ℕ → List ℕ → List ℕ → Result Start Refusal
start_of limit cuts table script =
    or_refusal (table_of table) >>= λ t.
    (script_of t.columns script >>= λ s.
    (cuts_of s.columns cuts >>= λ lists.
    (rows_within limit t.rows >>= λ rows.
    Ok (record { columns = s.columns; rows = rows; blocks = s.blocks; cuts = lists }))))

-- ---- what a run leaves

-- whether a number is that of one of so many sessions, which are 1, 2, 3 and so on
abbrev pub is_session : ℕ → ℕ → Bool
is_session n session = nat_lt 0 session && nat_le session n

-- The record of a table whose sessions 1, 2, 3 and so on made the calls of these outcomes, one block each: it is legal,
-- from the attributes, rows and limit of the table; the entries of session i are those that the calls of block i left, in
-- order: each with its reply, or void where a select was refused, or none; the answered ones are those of the block, no
-- other session has entries, and none is open.
pub record IsRecordOf (columns : List Column) (rows : List Row) (limit : ℕ) (told : List (List Outcome)) (h : History)
    : Type 0 where
  pub columns_are : h.columns ≡ columns
  pub rows_are : h.rows ≡ rows
  pub limit_is : h.limit ≡ limit
  pub legal : IsLegal h
  pub given : all_given h.entries ≡ true
  pub left_are : (i : ℕ) → i < length told → AllLeft (slice_index_or told i []) (own (i + 1) h.entries)
  pub answered_are : (i : ℕ) → i < length told → mine (i + 1) h.entries ≡ answered (slice_index_or told i [])
  pub alone : (session : ℕ) → is_session (length told) session ≡ false → is_absent session h.entries ≡ true
  pub closed : none_open h.entries ≡ true

-- A run from a start that ended: each call of each block has an outcome, a refused one was refused for want of memory
-- or for a full history, the record is of these outcomes, and the sink took their lines.
pub record Leaves (limit : ℕ) (s : Start) (told : List (List Outcome)) (old new : Option (List ℕ)) (h : History)
    : Type 0 where
  pub calls : map calls_of told ≡ s.blocks
  pub why : AllSayWhy told
  pub record_is : IsRecordOf s.columns s.rows limit told h
  pub wrote : Took old new (text_of s.columns told)

-- the sink took a beginning of the lines of some outcomes of the calls, of which there was a record
pub record Began (limit : ℕ) (s : Start) (old new : Option (List ℕ)) : Type 0 where
  pub told : List (List Outcome)
  pub history : History
  pub calls : map calls_of told ≡ s.blocks
  pub why : AllSayWhy told
  pub record_is : IsRecordOf s.columns s.rows limit told history
  pub wrote : TookBeginning old new (text_of s.columns told)

-- ---- where each call was answered

-- each session has an answered call for each call of its block
abbrev pub AllAnswered : List (List Call) → History → Type 0
AllAnswered blocks h =
    (i : ℕ) → i < length blocks → length (mine (i + 1) h.entries) ≡ length (slice_index_or blocks i [])

-- the answered calls of session i are the calls of block i, and the sink took the lines of their replies, block after
-- block with a line `---` between two, and nothing else
pub record TellsAll (s : Start) (old new : Option (List ℕ)) (h : History) : Type 0 where
  pub calls : (i : ℕ) → i < length s.blocks → map (λ m. m.0) (mine (i + 1) h.entries) ≡ slice_index_or s.blocks i []
  pub wrote : Took old new (text_of s.columns (map all_answered (sessions_from 1 (length s.blocks) h)))

-- the lines of the table's replies to calls, one after another
abbrev pub replies_bytes : List Column → ℕ → List Update → List Call → List ℕ
replies_bytes columns limit us [] = []
replies_bytes columns limit us (c ∷ cs) =
    reply_bytes columns c (reply_to limit us c) ++ replies_bytes columns limit (updates_then limit us c) cs

-- what a script of one block writes: the lines of the plain table's replies to its calls
abbrev pub out_of : ℕ → Start → List Call → List ℕ
out_of limit s calls = replies_bytes s.columns limit (opened s.rows) calls
