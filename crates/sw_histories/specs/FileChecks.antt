-- What the check of a file writes and answers.
use Rattle.std.specs.Prelude.{◌≡◌, ◌++◌, ◌⊎◌, ℕ, List, codes, decimal, length, Option, Result, Ok, Err}
use Rattle.sw_rows.specs.Gives.{Raised}
use Rattle.sw_query.specs.declared.refusal.Refusal.{Refusal}
use Rattle.sw_query.specs.declared.refusal.Refusal.TheVariants as refusal
use Rattle.sw_lang.specs.Sinks.{Took, TookBeginning}
use Rattle.sw_spine.specs.History.{History, IsLegal}
use Rattle.sw_spine.specs.Checks.{IsFirstFault}
use Rattle.sw_histories.specs.RecordReading.{record_at}

abbrev pub count_line : ℕ → List ℕ
count_line n = decimal n ++ codes " entries\n"

abbrev pub legal_line : ℕ → List ℕ
legal_line n = codes "legal: " ++ count_line n

abbrev pub place_line : ℕ → List ℕ
place_line place = decimal place ++ codes "\n"

abbrev pub illegal_line : ℕ → List ℕ
illegal_line place = codes "not legal: entry " ++ place_line place

-- status 0 and the number of entries where the history is legal; otherwise status 1 and the first entry that is not
abbrev pub IsVerdict : History → ℕ → List ℕ → Type 0
IsVerdict h status line =
    (IsLegal h × (status ≡ 0) × (line ≡ legal_line (length h.entries)))
    ⊎ ((place : ℕ) × IsFirstFault h place × (status ≡ 1) × (line ≡ illegal_line place))

-- nothing was written, and the count of failures stands
abbrev pub IsUntouched : Option (List ℕ) → Option (List ℕ) → ℕ → ℕ → Type 0
IsUntouched old new f g = (new ≡ old) × (g ≡ f)

-- a history's verdict was written, and the count of failures stands
abbrev pub HasJudged : History → ℕ → Option (List ℕ) → Option (List ℕ) → ℕ → ℕ → Type 0
HasJudged h status old new f g = (line : List ℕ) × IsVerdict h status line × Took old new line × (g ≡ f)

-- a beginning of it was, since the sink failed
abbrev pub HasBegun : History → Option (List ℕ) → Option (List ℕ) → ℕ → ℕ → Type 0
HasBegun h old new f g =
    (status : ℕ) × (line : List ℕ) × IsVerdict h status line × TookBeginning old new line × Raised f g

-- a history's verdict was written; or a beginning of it was; or there was no memory
abbrev pub Judges : History → Option (List ℕ) → Option (List ℕ) → ℕ → ℕ → Result ℕ Refusal → Type 0
Judges h old new f g (Ok status) = HasJudged h status old new f g
Judges h old new f g (Err refusal.NoMemory) = IsUntouched old new f g
Judges h old new f g (Err refusal.Output) = HasBegun h old new f g
Judges h old new f g (Err other) = ⊥

-- the same of the history of a file's bytes; where they are none, the refusal is their first fault
abbrev pub ChecksFile : List ℕ → Option (List ℕ) → Option (List ℕ) → ℕ → ℕ → Result ℕ Refusal → Type 0
ChecksFile bytes old new f g (Ok status) = (h : History) × (record_at bytes ≡ Ok h) × HasJudged h status old new f g
ChecksFile bytes old new f g (Err refusal.NoMemory) = IsUntouched old new f g
ChecksFile bytes old new f g (Err refusal.Output) = (h : History) × (record_at bytes ≡ Ok h) × HasBegun h old new f g
ChecksFile bytes old new f g (Err other) = (record_at bytes ≡ Err other) × IsUntouched old new f g
