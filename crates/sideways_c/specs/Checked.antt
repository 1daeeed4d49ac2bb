-- Histories that are checked.
use Rattle.std.specs.Prelude.{ℕ, ◌≡◌, ◌⊎◌, ◌==◌, if◌then◌else◌, List, Option, None, Some, Result, Ok, Err}
use Rattle.sw_query.specs.declared.refusal.Refusal.{Refusal}
use Rattle.sw_query.specs.declared.refusal.Refusal.TheVariants as refusal
use Rattle.sw_spine.specs.Checks.{IsFirstFault}
use Rattle.sw_spine.specs.History.{History, IsLegal}
use Rattle.sw_histories.specs.Explained.{IsExplained}
use Rattle.sw_histories.specs.RecordReading.{record_at}
use Rattle.sideways_c.specs.Codes.{code_of}
use Rattle.sideways_c.specs.Shown.{Shown, telling}
use Rattle.sideways_c.specs.declared.codes.TheConstants.{MISUSE, NOT_LEGAL, OK}

-- the history that bytes spell is legal, or its first fault is named; or they spell none; or there was no memory
abbrev pub ChecksHistory : List ℕ → Result (Unit {0}) Refusal → Type 0
ChecksHistory bytes (Ok done) = (h : History) × (record_at bytes ≡ Ok h) × IsLegal h
ChecksHistory bytes (Err refusal.NoMemory) = Unit {0}
ChecksHistory bytes (Err (refusal.NotLegal index)) = (h : History) × (record_at bytes ≡ Ok h) × IsFirstFault h index
ChecksHistory bytes (Err e) = record_at bytes ≡ Err e

-- the entry that a refusal names, or 0
abbrev pub entry_of : Refusal → ℕ
entry_of (refusal.NotLegal index) = index
entry_of e = 0

-- the code and the entry that are told
abbrev pub ReportsEntry : Result (Unit {0}) Refusal → ℕ → ℕ → Type 0
ReportsEntry (Ok done) code entry = (code ≡ OK) × (entry ≡ 0)
ReportsEntry (Err e) code entry = (code ≡ code_of e) × (entry ≡ entry_of e)

abbrev pub ChecksBytes : List ℕ → ℕ → ℕ → Type 0
ChecksBytes bytes code entry = (r : Result (Unit {0}) Refusal) × ChecksHistory bytes r × ReportsEntry r code entry

-- the code of a verdict's status
abbrev pub status_code : ℕ → ℕ
status_code status = if status == 0 then OK else NOT_LEGAL

-- a text is the verdict on the history that bytes spell and, where it is not legal, why
abbrev pub ExplainsAs : List ℕ → ℕ → List ℕ → Type 0
ExplainsAs bytes status text = (h : History) × (record_at bytes ≡ Ok h) × IsExplained h status text

-- bytes spell no history, or there was no memory
abbrev pub IsUnread : List ℕ → Refusal → Type 0
IsUnread bytes refusal.NoMemory = Unit {0}
IsUnread bytes e = record_at bytes ≡ Err e

abbrev pub ExplainsIn : List ℕ → ℕ → Option Shown → Type 0
ExplainsIn bytes code new =
    (status : ℕ) × (text : List ℕ) × ExplainsAs bytes status text × (code ≡ status_code status) × (new ≡ Some (telling text))

abbrev pub ExplainsClosed : List ℕ → Option Shown → ℕ → Type 0
ExplainsClosed bytes new code =
    ExplainsIn bytes code new ⊎ ((e : Refusal) × IsUnread bytes e × (code ≡ code_of e) × (new ≡ None))

abbrev pub ExplainsHandle : List ℕ → Option Shown → Option Shown → ℕ → Type 0
ExplainsHandle bytes None new code = ExplainsClosed bytes new code
ExplainsHandle bytes (Some h) new code = (code ≡ MISUSE) × (new ≡ Some h)
