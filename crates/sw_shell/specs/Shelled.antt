-- What a shell answers.
use Rattle.std.specs.Prelude.{◌≡◌, ℕ, List, [], IfSome, Result, Ok, Err}
use Rattle.sw_rows.specs.Header.{Column}
use Rattle.sw_query.specs.declared.refusal.Refusal.{Refusal}
use Rattle.sw_table.specs.declared.row.Row.{Row}
use Rattle.sw_cli.specs.Run.{Start, start_of}
use Rattle.sw_cli.specs.Sides.{SourceFailed, SourceSeen}
use Rattle.sw_cli.specs.Starts.{ReadsFrom, RefusedFrom, start_seen}
use Rattle.sw_cli.specs.declared.running.Options.{Options}
use Rattle.sw_cli.specs.declared.start.Inputs.{Inputs}
use Rattle.sw_shell.specs.Talks.{IsLeft}
use Rattle.sw_shell.specs.Traffic.{Traffic}
use Rattle.sw_shell.specs.declared.opening.Ended.{Ended}

-- what is answered of the source of a table: the start that its bytes spell, as of a run without a script
abbrev pub ReadsTable : Options → SourceSeen → Result Inputs Refusal → Type 0
ReadsTable o t result =
    IfSome t.left (λ bytes. ReadsFrom (SourceFailed t) start_seen result (start_of o.limit o.cuts.now bytes []))

-- it is left by a shell over a table of these attributes and rows, through whose console this went
abbrev pub IsLeftBy : List Column → List Row → ℕ → Traffic → Traffic → Ended → Type 0
IsLeftBy columns rows limit old new e = IsLeft columns rows limit old new e.failure e.history

-- What a shell answers over a table of these bytes: what is left over the table that they spell; or, before any line, the refusal of
-- what they spell, as of a run without a script. That of the source comes only where I holds.
abbrev pub Shelled : Type 0 → ℕ → List ℕ → List ℕ → Traffic → Traffic → Result Ended Refusal → Type 0
Shelled I limit cuts table old new (Ok e) =
    (s : Start) × (start_of limit cuts table [] ≡ Ok s) × IsLeftBy s.columns s.rows limit old new e
Shelled I limit cuts table old new (Err e) = RefusedFrom I e (start_of limit cuts table [])

-- what a shell answers over the table of a source, where its bytes are known
abbrev pub Shells : Options → SourceSeen → Traffic → Traffic → Result Ended Refusal → Type 0
Shells o t old new result = IfSome t.left (λ bytes. Shelled (SourceFailed t) o.limit o.cuts.now bytes old new result)
