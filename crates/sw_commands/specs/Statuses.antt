-- What the exit status of a check says of a file's bytes.
use Rattle.std.specs.Prelude.{◌≡◌, ◌⊎◌, ℕ, List, Ok}
use Rattle.sw_histories.specs.RecordReading.{record_at}
use Rattle.sw_spine.specs.Checks.{IsFirstFault}
use Rattle.sw_spine.specs.History.{History, IsLegal}

-- 0 only of a legal history, 1 only of one in which an entry is the first that does not agree
abbrev pub IsVerdictOf : History → ℕ → Type 0
IsVerdictOf h status = (IsLegal h × (status ≡ 0)) ⊎ ((place : ℕ) × IsFirstFault h place × (status ≡ 1))

-- the same of the history that bytes spell
abbrev pub IsStatusOf : List ℕ → ℕ → Type 0
IsStatusOf bytes status = (h : History) × (record_at bytes ≡ Ok h) × IsVerdictOf h status
