-- Calls that numbers ask for.
use Rattle.std.specs.Prelude.{ℕ, ◌≡◌, ◌⊎◌, ◌^◌, ℤ, pos, Bool, true, false, List, Option, None, Some, MatchOption, Result, Ok, Err}
use Rattle.std.specs.Int.{int_div_euclid, int_rem_euclid}
use denote.Ref.{Bor}
use Rattle.sw_query.specs.declared.query.Call.{Call}
use Rattle.sw_query.specs.declared.refusal.Refusal.{Refusal}
use Rattle.sw_query.specs.declared.reply.Reply.{Reply}
use Rattle.sw_query.specs.declared.reply.Reply.TheVariants as reply
use Rattle.sw_arrays.specs.Asked.{call_asked}
use Rattle.sw_arrays.specs.declared.asked.Asked.{Asked}
use Rattle.sw_arrays.specs.declared.asked.Asked.TheVariants as asked
use Rattle.sw_arrays.specs.declared.asked.Wanted.TheVariants as wanted
use Rattle.sw_arrays.specs.declared.range.Fault.{Fault}
use Rattle.sw_arrays.specs.declared.range.Range.{Range}
use Rattle.sw_solo.specs.Called.{HasCalled, RefusesCall, SoloState}
use Rattle.sideways_c.specs.Codes.{code_of, fault_code}
use Rattle.sideways_c.specs.Shown.{Shown, has_session}
use Rattle.sideways_c.specs.declared.asking.Least.{Least}
use Rattle.sideways_c.specs.declared.asking.Words.{Words}
use Rattle.sideways_c.specs.declared.codes.TheConstants.{MISUSE, NO_SESSION, OK}

-- nothing has changed, and this is the code
abbrev pub IsTold : {A : Type 0} → ℕ → Shown → Shown → Result A ℕ → Type 0
IsTold told old new r = (r ≡ Err told) × (new ≡ old)

-- the code of a call that was not made: it could not be, or the numbers are none
abbrev pub IsNotMade : Asked → SoloState → ℕ → Type 0
IsNotMade a s code =
    ((e : Refusal) × RefusesCall s e × (code ≡ code_of e))
    ⊎ ((f : Fault) × (call_asked s.history.columns a ≡ Err f) × (code ≡ fault_code f))

-- what came of the call that numbers ask for: it was made, and the reply is that of the plain table; or nothing has changed
abbrev pub AskedIn : ℕ → Asked → SoloState → Shown → Shown → Result Reply ℕ → Type 0
AskedIn session a s old new (Ok r) =
    (c : Call) × (t : SoloState) × (call_asked s.history.columns a ≡ Ok c) × HasCalled session c s t r
    × (new ≡ record old { engine = Some t })
AskedIn session a s old new (Err code) = IsNotMade a s code × (new ≡ old)

abbrev pub AskedBy : Bool → ℕ → Asked → SoloState → Shown → Shown → Result Reply ℕ → Type 0
AskedBy true session a s old new r = AskedIn session a s old new r
AskedBy false session a s old new r = IsTold NO_SESSION old new r

-- the same of a handle's engine, if there is one and the session was opened
abbrev pub AskedOn : ℕ → Asked → Shown → Shown → Result Reply ℕ → Type 0
AskedOn session a old new r =
    MatchOption old.engine (IsTold MISUSE old new r) (λ s. AskedBy (has_session session s) session a s old new r)

abbrev pub AskedOver : ℕ → Asked → Option Shown → Option Shown → Result Reply ℕ → Type 0
AskedOver session a None new r = (r ≡ Err MISUSE) × (new ≡ None)
AskedOver session a (Some old) None r = ⊥
AskedOver session a (Some old) (Some new) r = AskedOn session a old new r

-- the code of what came of a call, and what is told of its reply
abbrev pub Reports : (Reply → Type 0) → Type 0 → Result Reply ℕ → ℕ → Type 0
Reports tells kept (Ok r) code = (code ≡ OK) × tells r
Reports tells kept (Err told) code = (code ≡ told) × kept

-- a call of a handle's engine, told so
abbrev pub Told : ℕ → Asked → Option Shown → Option Shown → ℕ → (Reply → Type 0) → Type 0 → Type 0
Told session a old new code tells kept = (r : Result Reply ℕ) × AskedOver session a old new r × Reports tells kept r code

-- the number of rows that meet the conditions
abbrev pub TellsCount : ℕ → Bor (List Range) → Option Shown → Option Shown → ℕ → ℕ → ℕ → Type 0
TellsCount session ranges old new code was found =
    Told session (asked.Select wanted.Count ranges) old new code (λ r. r ≡ reply.Count found) (found ≡ was)

-- the sum of an attribute over them, as two words: the high one times 2^64 and the low one
abbrev pub IsSumTold : Words → Reply → Type 0
IsSumTold words r =
    (z : ℤ) × (r ≡ reply.Sum z) × (words.high ≡ int_div_euclid z (pos (2 ^ 64)))
    × (pos words.low ≡ int_rem_euclid z (pos (2 ^ 64)))

abbrev pub TellsSum : ℕ → ℕ → Bor (List Range) → Option Shown → Option Shown → ℕ → Words → Words → Type 0
TellsSum session a ranges old new code was sum =
    Told session (asked.Select (wanted.Sum a) ranges) old new code (IsSumTold sum) (sum ≡ was)

-- a least or a greatest: whether there is one, and 0 where there is none
abbrev pub least_told : Option ℤ → Least
least_told None = record { found = 0; value = pos 0 }
least_told (Some z) = record { found = 1; value = z }

abbrev pub IsLeastTold : Least → Reply → Type 0
IsLeastTold told r = (o : Option ℤ) × (r ≡ reply.Least o) × (told ≡ least_told o)

abbrev pub TellsMin : ℕ → ℕ → Bor (List Range) → Option Shown → Option Shown → ℕ → Least → Least → Type 0
TellsMin session a ranges old new code was least =
    Told session (asked.Select (wanted.Min a) ranges) old new code (IsLeastTold least) (least ≡ was)

abbrev pub TellsMax : ℕ → ℕ → Bor (List Range) → Option Shown → Option Shown → ℕ → Least → Least → Type 0
TellsMax session a ranges old new code was most =
    Told session (asked.Select (wanted.Max a) ranges) old new code (IsLeastTold most) (most ≡ was)

-- the key of an inserted row, or 0 where there was no room
abbrev pub IsKeyTold : ℕ → Reply → Type 0
IsKeyTold key r = (r ≡ reply.Inserted key) ⊎ ((r ≡ reply.Full) × (key ≡ 0))

abbrev pub TellsInsert : ℕ → Bor (List ℤ) → Option Shown → Option Shown → ℕ → ℕ → ℕ → Type 0
TellsInsert session cells old new code was key =
    Told session (asked.Insert cells) old new code (IsKeyTold key) (key ≡ was)

-- whether there was a row of the key
abbrev pub IsRemovalTold : ℕ → Reply → Type 0
IsRemovalTold removed r = ((r ≡ reply.Removed) × (removed ≡ 1)) ⊎ ((r ≡ reply.NoSuchKey) × (removed ≡ 0))

abbrev pub TellsDelete : ℕ → ℕ → Option Shown → Option Shown → ℕ → ℕ → ℕ → Type 0
TellsDelete session key old new code was removed =
    Told session (asked.Delete key) old new code (IsRemovalTold removed) (removed ≡ was)

-- how many rows met the conditions
abbrev pub TellsDeleteWhere : ℕ → Bor (List Range) → Option Shown → Option Shown → ℕ → ℕ → ℕ → Type 0
TellsDeleteWhere session ranges old new code was removed =
    Told session (asked.DeleteWhere ranges) old new code (λ r. r ≡ reply.RemovedMany removed) (removed ≡ was)

-- ---- the replies that come of calls

abbrev pub IsCount : Reply → Type 0
IsCount (reply.Count n) = Unit {0}
IsCount r = ⊥

abbrev pub IsSum : Reply → Type 0
IsSum (reply.Sum z) = Unit {0}
IsSum r = ⊥

abbrev pub IsLeast : Reply → Type 0
IsLeast (reply.Least o) = Unit {0}
IsLeast r = ⊥

abbrev pub IsRows : Reply → Type 0
IsRows (reply.Rows rows) = Unit {0}
IsRows r = ⊥

abbrev pub IsInsert : Reply → Type 0
IsInsert (reply.Inserted key) = Unit {0}
IsInsert reply.Full = Unit {0}
IsInsert r = ⊥

abbrev pub IsDelete : Reply → Type 0
IsDelete reply.Removed = Unit {0}
IsDelete reply.NoSuchKey = Unit {0}
IsDelete r = ⊥

abbrev pub IsDeleteWhere : Reply → Type 0
IsDeleteWhere (reply.RemovedMany n) = Unit {0}
IsDeleteWhere r = ⊥
