-- What the explanation of a verdict says.
use Rattle.std.specs.Prelude.{◌≡◌, ◌+◌, ◌-◌, ◌++◌, ◌⊎◌, ℕ, List, [], codes, decimal, length, slice_get, Option, None, Some, Result, Ok, Err}
use Rattle.sw_rows.specs.Gives.{Raised}
use Rattle.sw_rows.specs.Header.{Column}
use Rattle.sw_query.specs.declared.refusal.Refusal.{Refusal}
use Rattle.sw_query.specs.declared.refusal.Refusal.TheVariants as refusal
use Rattle.sw_query.specs.declared.query.Call.{Call}
use Rattle.sw_query.specs.declared.reply.Reply.{Reply}
use Rattle.sw_lang.specs.PrintedCalls.{call_text}
use Rattle.sw_lang.specs.Replies.{reply_lines}
use Rattle.sw_lang.specs.Sinks.{Took, TookBeginning}
use Rattle.sw_spine.specs.Apart.{PartAt}
use Rattle.sw_spine.specs.History.{History, IsLegal}
use Rattle.sw_spine.specs.Checks.{IsExpectedAt, IsFirstFault}
use Rattle.sw_spine.specs.declared.history.Entry.{Entry}
use Rattle.sw_spine.specs.declared.history.State.{State}
use Rattle.sw_spine.specs.declared.history.State.TheVariants as state
use Rattle.sw_histories.specs.FileChecks.{IsUntouched, illegal_line, legal_line}
use Rattle.sw_histories.specs.RecordReading.{record_at}

-- the lines of the reply that a state keeps; none where it keeps no reply
abbrev pub given_lines : List Column → Call → State → List (List ℕ)
given_lines columns c (state.Answered r) = reply_lines columns c r
given_lines columns c (state.Lines ls) = ls
given_lines columns c state.Open = []
given_lines columns c state.Void = []

-- the entry at a place, counted from 1: its session and its call
abbrev pub entry_line : List Column → ℕ → Entry → List ℕ
entry_line columns place e =
    codes "entry " ++ (decimal place ++ (codes ", session " ++ (decimal e.session ++ (codes ": " ++
    (call_text columns e.call ++ codes "\n")))))

-- a line of a reply, counted from 0, or that it has none there
abbrev pub some_line : ℕ → List (List ℕ) → Option (List ℕ) → List ℕ
some_line n ls None = codes "no line " ++ (decimal (n + 1) ++ codes "\n")
some_line n ls (Some l) =
    codes "line " ++ (decimal (n + 1) ++ (codes " of " ++ (decimal (length ls) ++ (codes ": " ++ (l ++ codes "\n")))))

abbrev pub line_at : ℕ → List (List ℕ) → List ℕ
line_at n ls = some_line n ls (slice_get ls n)

-- the lines of two replies at a place: of the one that was given, then of the list's
abbrev pub parted_text : ℕ → List (List ℕ) → List (List ℕ) → List ℕ
parted_text n given listed = codes "given, " ++ (line_at n given ++ (codes "the list's, " ++ line_at n listed))

-- a text shows two replies where they part
abbrev pub ShowsParting : List (List ℕ) → List (List ℕ) → List ℕ → Type 0
ShowsParting given listed text = (n : ℕ) × PartAt n given listed × (text ≡ parted_text n given listed)

-- the same of an entry under these attributes, whose reply stands first
abbrev pub ShowsPartingOf : List Column → Entry → List (List ℕ) → List ℕ → Type 0
ShowsPartingOf columns e listed text = ShowsParting (given_lines columns e.call e.state) listed text

-- a text explains why the entry at a place, counted from 1, does not agree: it names the entry, shows its reply and the
-- list's where they part, and then says more
abbrev pub Explains : History → ℕ → List ℕ → Type 0
Explains h place text =
    (e : Entry) × (listed : Reply) × (parting : List ℕ) × (more : List ℕ)
    × (slice_get h.entries (place - 1) ≡ Some e) × IsExpectedAt h (place - 1) listed
    × ShowsPartingOf h.columns e (reply_lines h.columns e.call listed) parting
    × (text ≡ entry_line h.columns place e ++ (parting ++ more))

-- what is said of an entry that does not agree: the verdict's line, and why
abbrev pub said : ℕ → List ℕ → List ℕ
said place why = illegal_line place ++ why

-- the verdict's line, and where the history is not legal its explanation
abbrev pub IsExplained : History → ℕ → List ℕ → Type 0
IsExplained h status text =
    (IsLegal h × (status ≡ 0) × (text ≡ legal_line (length h.entries)))
    ⊎ ((place : ℕ) × (why : List ℕ) × IsFirstFault h place × Explains h place why
    × (status ≡ 1) × (text ≡ said place why))

abbrev pub HasExplained : History → ℕ → Option (List ℕ) → Option (List ℕ) → ℕ → ℕ → Type 0
HasExplained h status old new f g = (text : List ℕ) × IsExplained h status text × Took old new text × (g ≡ f)

-- a beginning of it went out, since the sink failed
abbrev pub HasBegunToExplain : History → Option (List ℕ) → Option (List ℕ) → ℕ → ℕ → Type 0
HasBegunToExplain h old new f g =
    (status : ℕ) × (text : List ℕ) × IsExplained h status text × TookBeginning old new text × Raised f g

-- the verdict and its explanation were written; or a beginning of them was; or there was no memory
abbrev pub JudgesExplained : History → Option (List ℕ) → Option (List ℕ) → ℕ → ℕ → Result ℕ Refusal → Type 0
JudgesExplained h old new f g (Ok status) = HasExplained h status old new f g
JudgesExplained h old new f g (Err refusal.NoMemory) = IsUntouched old new f g
JudgesExplained h old new f g (Err refusal.Output) = HasBegunToExplain h old new f g
JudgesExplained h old new f g (Err other) = ⊥

-- the same of the history of a file's bytes; where they are none, the refusal is their first fault
abbrev pub ExplainsFile : List ℕ → Option (List ℕ) → Option (List ℕ) → ℕ → ℕ → Result ℕ Refusal → Type 0
ExplainsFile bytes old new f g (Ok status) =
    (h : History) × (record_at bytes ≡ Ok h) × HasExplained h status old new f g
ExplainsFile bytes old new f g (Err refusal.NoMemory) = IsUntouched old new f g
ExplainsFile bytes old new f g (Err refusal.Output) =
    (h : History) × (record_at bytes ≡ Ok h) × HasBegunToExplain h old new f g
ExplainsFile bytes old new f g (Err other) = (record_at bytes ≡ Err other) × IsUntouched old new f g
