-- The record of a run as the record of a history file.
use Rattle.std.specs.Prelude.{◌≡◌, ℕ, List, Option, Result, Ok, length}
use Rattle.sw_query.specs.declared.refusal.Refusal.{Refusal}
use Rattle.sw_spine.specs.History.{History, IsSound}
use Rattle.sw_histories.specs.FileChecks.{ChecksFile}
use Rattle.sw_histories.specs.FoundLegal.{IsFoundLegal}
use Rattle.sw_histories.specs.ReadBack.{IsOfRun}
use Rattle.sw_histories.specs.RecordText.{record_text}
use Rattle.sw_cli.specs.Outcomes.{Outcome}
use Rattle.sw_cli.specs.Run.{Leaves, Start, start_of}

-- whatever run left this record of this start
pub record IsLeft (limit : ℕ) (s : Start) (h : History) : Type 0 where
  pub told : List (List Outcome)
  pub old : Option (List ℕ)
  pub new : Option (List ℕ)
  pub leaves : Leaves limit s told old new h
  pub sound : IsSound h

-- such a record is one of which history files tell
abbrev pub RecordsAreOfRuns : Type 0
RecordsAreOfRuns =
    (limit : ℕ) (cuts table script : List ℕ) (s : Start) (h : History)
    → start_of limit cuts table script ≡ Ok s → IsLeft limit s h → IsOfRun h

-- and the check finds its file legal
abbrev pub RecordsAreFoundLegal : Type 0
RecordsAreFoundLegal =
    (limit : ℕ) (cuts table script : List ℕ) (s : Start) (h : History)
    → start_of limit cuts table script ≡ Ok s → IsLeft limit s h
    → (old new : Option (List ℕ)) (f g : ℕ) (answer : Result ℕ Refusal)
    → ChecksFile (record_text h) old new f g answer → IsFoundLegal (length h.entries) old new answer
