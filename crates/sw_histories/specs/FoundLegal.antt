-- What the check of a legal history's file comes to.
use Rattle.std.specs.Prelude.{◌≡◌, ℕ, List, length, Option, Result, Ok, Err}
use Rattle.sw_query.specs.declared.refusal.Refusal.{Refusal}
use Rattle.sw_query.specs.declared.refusal.Refusal.TheVariants as refusal
use Rattle.sw_lang.specs.Sinks.{Took, TookBeginning}
use Rattle.sw_histories.specs.FileChecks.{ChecksFile, legal_line}
use Rattle.sw_histories.specs.ReadBack.{IsOfRun}
use Rattle.sw_histories.specs.RecordText.{record_text}
use Rattle.sw_spine.specs.History.{History, IsLegal}

-- found legal: status 0, and the line that says so of this many entries; or there was no memory, or the sink failed
-- before that line was whole
abbrev pub IsFoundLegal : ℕ → Option (List ℕ) → Option (List ℕ) → Result ℕ Refusal → Type 0
IsFoundLegal n old new (Ok status) = (status ≡ 0) × Took old new (legal_line n)
IsFoundLegal n old new (Err refusal.NoMemory) = Unit {0}
IsFoundLegal n old new (Err refusal.Output) = TookBeginning old new (legal_line n)
IsFoundLegal n old new (Err other) = ⊥

-- the file of a legal history, where it is one of a run, is found legal
abbrev pub FilesAreFoundLegal : Type 0
FilesAreFoundLegal =
    (h : History) → IsOfRun h → IsLegal h → (old new : Option (List ℕ)) (f g : ℕ) (answer : Result ℕ Refusal)
    → ChecksFile (record_text h) old new f g answer → IsFoundLegal (length h.entries) old new answer
