-- Selects whose rows are kept.
use Rattle.std.specs.Prelude.{ℕ, ℤ, ◌≡◌, ◌⊎◌, Bool, true, false, List, drop, length, nat_le, Option, None, Some, MatchOption, Result, Ok, Err}
use denote.Ref.{Bor}
use Rattle.sw_query.specs.declared.query.Call.{Call}
use Rattle.sw_query.specs.declared.query.Call.TheVariants as call
use Rattle.sw_query.specs.declared.query.Query.{Query}
use Rattle.sw_query.specs.declared.refusal.Refusal.TheVariants.{NoMemory}
use Rattle.sw_query.specs.declared.reply.Reply.TheVariants as reply
use Rattle.sw_query.specs.declared.reply.ReplyRow.{ReplyRow}
use Rattle.sw_arrays.specs.Asked.{call_asked, query_in}
use Rattle.sw_arrays.specs.Blocks.{column_in, filled, keys_in, many_in}
use Rattle.sw_arrays.specs.declared.asked.Asked.{Asked}
use Rattle.sw_arrays.specs.declared.asked.Asked.TheVariants as asked
use Rattle.sw_arrays.specs.declared.asked.Wanted.TheVariants as wanted
use Rattle.sw_arrays.specs.declared.range.Fault.{Fault}
use Rattle.sw_arrays.specs.declared.range.Range.{Range}
use Rattle.sw_solo.specs.Called.{HasCalled, SoloState, reply_in}
use Rattle.sideways_c.specs.Asks.{IsNotMade, IsTold}
use Rattle.sideways_c.specs.Codes.{code_of, fault_code}
use Rattle.sideways_c.specs.Shown.{Shown, has_session}
use Rattle.sideways_c.specs.declared.codes.TheConstants.{MISUSE, NO_ATTRIBUTE, NO_ROWS, NO_SESSION, OK}
use Rattle.sideways_c.specs.declared.kept.Kept.{Kept}

abbrev pub select_of : Bor (List ℕ) → Bor (List Range) → Asked
select_of attributes ranges = asked.Select (wanted.Rows attributes) ranges

abbrev pub kept_rows : List ReplyRow → ℕ → Kept
kept_rows rows columns = record { rows = rows; columns = columns }

-- what came of a select: it was made, and the rows are kept, in as many columns as were asked for; or nothing has changed
abbrev pub SelectsOf : ℕ → Bor (List ℕ) → Bor (List Range) → SoloState → Shown → Shown → Result ℕ ℕ → Type 0
SelectsOf session names ranges s old new (Ok many) =
    (c : Call) × (t : SoloState) × (rows : List ReplyRow) × (call_asked s.history.columns (select_of names ranges) ≡ Ok c)
    × HasCalled session c s t (reply.Rows rows) × (many ≡ length rows)
    × (new ≡ record old { engine = Some t; kept = Some (kept_rows rows (length names.now)) })
SelectsOf session names ranges s old new (Err code) = IsNotMade (select_of names ranges) s code × (new ≡ old)

abbrev pub SelectsBy : Bool → ℕ → Bor (List ℕ) → Bor (List Range) → SoloState → Shown → Shown → Result ℕ ℕ → Type 0
SelectsBy true session names ranges s old new r = SelectsOf session names ranges s old new r
SelectsBy false session names ranges s old new r = IsTold NO_SESSION old new r

abbrev pub SelectsIn : ℕ → Bor (List ℕ) → Bor (List Range) → Shown → Shown → Result ℕ ℕ → Type 0
SelectsIn session names ranges old new r =
    MatchOption old.engine (IsTold MISUSE old new r) (λ s. SelectsBy (has_session session s) session names ranges s old new r)

abbrev pub SelectsOver : ℕ → Bor (List ℕ) → Bor (List Range) → Option Shown → Option Shown → Result ℕ ℕ → Type 0
SelectsOver session names ranges None new r = (r ≡ Err MISUSE) × (new ≡ None)
SelectsOver session names ranges (Some old) None r = ⊥
SelectsOver session names ranges (Some old) (Some new) r = SelectsIn session names ranges old new r

-- the code of it, and the number of rows
abbrev pub IsManyTold : Result ℕ ℕ → ℕ → ℕ → ℕ → Type 0
IsManyTold (Ok many) code was rows = (code ≡ OK) × (rows ≡ many)
IsManyTold (Err told) code was rows = (code ≡ told) × (rows ≡ was)

abbrev pub TellsSelect : ℕ → Bor (List ℕ) → Bor (List Range) → Option Shown → Option Shown → ℕ → ℕ → ℕ → Type 0
TellsSelect session names ranges old new code was rows =
    (r : Result ℕ ℕ) × SelectsOver session names ranges old new r × IsManyTold r code was rows

-- ---- views

-- the rows that the plain table replies to a query with at the history's end; or the numbers are none, or there was no memory
abbrev pub Sees : Bor (List ℕ) → Bor (List Range) → SoloState → Result (List ReplyRow) ℕ → Type 0
Sees names ranges s (Ok rows) =
    (q : Query) × (query_in s.history.columns (wanted.Rows names) ranges.now ≡ Ok q)
    × (reply_in s (call.Select q) ≡ reply.Rows rows)
Sees names ranges s (Err told) =
    (told ≡ code_of NoMemory)
    ⊎ ((f : Fault) × (query_in s.history.columns (wanted.Rows names) ranges.now ≡ Err f) × (told ≡ fault_code f))

-- they are kept, and nothing else has changed
abbrev pub SeesOf : Bor (List ℕ) → Bor (List Range) → SoloState → Shown → Shown → Result ℕ ℕ → Type 0
SeesOf names ranges s old new (Ok many) =
    (rows : List ReplyRow) × Sees names ranges s (Ok rows) × (many ≡ length rows)
    × (new ≡ record old { kept = Some (kept_rows rows (length names.now)) })
SeesOf names ranges s old new (Err code) = Sees names ranges s (Err code) × (new ≡ old)

abbrev pub SeesIn : Bor (List ℕ) → Bor (List Range) → Shown → Shown → Result ℕ ℕ → Type 0
SeesIn names ranges old new r = MatchOption old.engine (IsTold MISUSE old new r) (λ s. SeesOf names ranges s old new r)

abbrev pub SeesOver : Bor (List ℕ) → Bor (List Range) → Option Shown → Option Shown → Result ℕ ℕ → Type 0
SeesOver names ranges None new r = (r ≡ Err MISUSE) × (new ≡ None)
SeesOver names ranges (Some old) None r = ⊥
SeesOver names ranges (Some old) (Some new) r = SeesIn names ranges old new r

abbrev pub TellsView : Bor (List ℕ) → Bor (List Range) → Option Shown → Option Shown → ℕ → ℕ → ℕ → Type 0
TellsView names ranges old new code was rows =
    (r : Result ℕ ℕ) × SeesOver names ranges old new r × IsManyTold r code was rows

-- ---- blocks

-- nothing was copied
abbrev pub IsNotCopied : {A : Type 0} → ℕ → ℕ → List A → List A → ℕ → Type 0
IsNotCopied told code was now copied = (code ≡ told) × (now ≡ was) × (copied ≡ 0)

-- as many of these as the block has room for
abbrev pub IsCopiedFrom : {A : Type 0} → List A → ℕ → List A → List A → ℕ → Type 0
IsCopiedFrom xs code was now copied = (code ≡ OK) × (now ≡ filled xs was) × (copied ≡ many_in xs was)

-- the keys of the kept rows from one on
abbrev pub CopiesKeysOf : ℕ → Option Kept → ℕ → List ℕ → List ℕ → ℕ → Type 0
CopiesKeysOf from None code was now copied = IsNotCopied NO_ROWS code was now copied
CopiesKeysOf from (Some k) code was now copied = IsCopiedFrom (drop from (keys_in k.rows)) code was now copied

abbrev pub CopiesKeys : ℕ → Option Shown → ℕ → List ℕ → List ℕ → ℕ → Type 0
CopiesKeys from None code was now copied = IsNotCopied MISUSE code was now copied
CopiesKeys from (Some h) code was now copied = CopiesKeysOf from h.kept code was now copied

-- a column of them, if there is one
abbrev pub CopiesCells : Bool → ℕ → ℕ → Kept → ℕ → List ℤ → List ℤ → ℕ → Type 0
CopiesCells true column from k code was now copied = IsNotCopied NO_ATTRIBUTE code was now copied
CopiesCells false column from k code was now copied = IsCopiedFrom (drop from (column_in column k.rows)) code was now copied

abbrev pub CopiesColumnOf : ℕ → ℕ → Option Kept → ℕ → List ℤ → List ℤ → ℕ → Type 0
CopiesColumnOf column from None code was now copied = IsNotCopied NO_ROWS code was now copied
CopiesColumnOf column from (Some k) code was now copied = CopiesCells (nat_le k.columns column) column from k code was now copied

abbrev pub CopiesColumn : ℕ → ℕ → Option Shown → ℕ → List ℤ → List ℤ → ℕ → Type 0
CopiesColumn column from None code was now copied = IsNotCopied MISUSE code was now copied
CopiesColumn column from (Some h) code was now copied = CopiesColumnOf column from h.kept code was now copied
