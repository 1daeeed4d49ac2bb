-- What the lines come to that are entered one after another.
use Rattle.std.specs.Prelude.{◌≡◌, ◌⊎◌, ◌++◌, ℕ, zero, suc, Bool, true, false, List, [], ◌∷◌, Option, Some, None, Result, Ok, Err}
use Rattle.std.specs.Io.KnownBytes.{IsAtEnd, Keeps}
use Rattle.bstr.specs.Text.{without_terminator}
use Rattle.sw_rows.specs.Header.{Column}
use Rattle.sw_query.specs.declared.query.Call.{Call}
use Rattle.sw_query.specs.declared.reply.Reply.{Reply}
use Rattle.sw_query.specs.declared.refusal.Refusal.{Refusal}
use Rattle.sw_lang.specs.Learning.{learned}
use Rattle.sw_lang.specs.Reading.{Answers}
use Rattle.sw_lang.specs.Sinks.{Took, TookBeginning, Writes}
use Rattle.sw_table.specs.declared.row.Row.{Row}
use Rattle.sw_spine.specs.History.{History}
use Rattle.sw_engine.specs.Headline.{IsHistoryOfOneThread}
use Rattle.sw_cli.specs.Outcomes.{SaysWhy, Told, told_bytes}
use Rattle.sw_cli.specs.Script.{call_of_line}
use Rattle.sw_cli.specs.Sides.{SinkSeen}
use Rattle.sw_shell.specs.Lines.{IsNext, IsQuit, is_command, is_quit}
use Rattle.sw_shell.specs.Traffic.{Traffic}
use Rattle.sw_shell.specs.declared.host.Line.{Line}

-- a shell between two lines: the attributes with the texts that are known by now, the calls that were answered with their
-- replies, and the bytes that its sink has taken, where they are known
pub record Said : Type 0 where
  pub columns : List Column
  pub made : List (Call × Reply)
  pub taken : Option (List ℕ)

abbrev pub said : List Column → List (Call × Reply) → Option (List ℕ) → Said
said columns made taken = record { columns = columns; made = made; taken = taken }

-- a seat of this number, attributes and calls, whose sink has taken these bytes
abbrev pub said_at : ℕ × List Column × List (Call × Reply) → Option (List ℕ) → Said
said_at seat taken = said seat.1 seat.2 taken

-- how much of a text a sink took: all of it, or a beginning
abbrev pub Taking : Type 1
Taking = Option (List ℕ) → Option (List ℕ) → List ℕ → Type 0

-- nothing was heard: the same attributes and calls, and no reply was written
pub record IsUnheard (a b : Said) : Type 0 where
  pub columns : b.columns ≡ a.columns
  pub made : b.made ≡ a.made
  pub quiet : Keeps a.taken b.taken

-- a line without a call: its texts are known
pub record IsIdle (line : List ℕ) (a b : Said) : Type 0 where
  pub columns : b.columns ≡ learned a.columns line
  pub made : b.made ≡ a.made
  pub quiet : Keeps a.taken b.taken

-- the answered calls, after one more call and what came of it
abbrev pub made_after : List (Call × Reply) → Call → Told → List (Call × Reply)
made_after made c (Ok r) = made ++ (c, r) ∷ []
made_after made c (Err e) = made

-- a call was made over these attributes: it was answered or refused, and its lines were written
pub record IsTold (columns : List Column) (c : Call) (result : Result (Unit {0}) Refusal) (old new : List (Call × Reply)) (w : SinkSeen)
    : Type 0 where
  pub told : Told
  pub why : SaysWhy told
  pub made : new ≡ made_after old c told
  pub wrote : Writes w.taken_before w.taken_after w.failed_before w.failed_after result (told_bytes columns c told)

-- a line's call was made: its texts are known, the call was answered or refused, and the sink took the lines of that
pub record IsCalled (W : Taking) (line : List ℕ) (c : Call) (a b : Said) : Type 0 where
  pub told : Told
  pub why : SaysWhy told
  pub columns : b.columns ≡ learned a.columns line
  pub made : b.made ≡ made_after a.made c told
  pub wrote : W a.taken b.taken (told_bytes b.columns c told)

-- what comes of a line of which this was read
abbrev pub Comes : Taking → List ℕ → Result (Option Call) Refusal → Said → Said → Type 0
Comes W line (Err e) a b = IsUnheard a b
Comes W line (Ok None) a b = IsIdle line a b
Comes W line (Ok (Some c)) a b = IsCalled W line c a b

-- what was read of line n is what it spells, unless memory ran out; and that came of it
pub record IsHeard (W : Taking) (n : ℕ) (line : List ℕ) (a b : Said) : Type 0 where
  pub said : Result (Option Call) Refusal
  pub answers : Answers said (call_of_line a.columns n line)
  pub came : Comes W line said a b

-- what hearing a line comes to; where that is refused, the sink took a beginning
abbrev pub Heard : Result (Unit {0}) Refusal → Line → Said → Said → Type 0
Heard (Ok x) l a b = IsHeard Took l.number l.bytes.now a b
Heard (Err e) l a b = IsHeard TookBeginning l.number l.bytes.now a b

-- a line that is a command makes no call
abbrev pub CameBy : Bool → Taking → ℕ → List ℕ → Said → Said → Type 0
CameBy true W n line a b = IsUnheard a b
CameBy false W n line a b = IsHeard W n line a b

-- what came of line n
abbrev pub Came : Taking → ℕ → List ℕ → Said → Said → Type 0
Came W n line a b = CameBy (is_command line) W n line a b

-- a line was taken that does not end the shell
pub record IsTaken (W : Taking) (n : ℕ) (line : List ℕ) (a b : Said) : Type 0 where
  pub stays : is_quit line ≡ false
  pub came : Came W n line a b

-- a line ends the shell, and nothing is heard
pub record IsTheEnd (line : List ℕ) (a b : Said) : Type 0 where
  pub ends : is_quit line ≡ true
  pub unheard : IsUnheard a b

-- what taking a line comes to: there are to be more, or it ends the shell; where that is refused, the sink took a beginning
abbrev pub Taken : Result Bool Refusal → Line → Said → Said → Type 0
Taken (Ok true) l a b = IsTaken Took l.number l.bytes.now a b
Taken (Ok false) l a b = IsTheEnd l.bytes.now a b
Taken (Err e) l a b = IsTaken TookBeginning l.number l.bytes.now a b

-- and beside it the bytes that its reader has left, where they are known
pub record Seen : Type 0 where
  pub said : Said
  pub left : Option (List ℕ)

abbrev pub seen : Said → Option (List ℕ) → Seen
seen said left = record { said = said; left = left }

-- a seat beside what went through its console
abbrev pub seen_at : ℕ × List Column × List (Call × Reply) → Traffic → Seen
seen_at seat t = seen (said_at seat t.taken) t.left

-- the next line was entered, which is not `.quit`, and came to this
pub record IsEntered (W : Taking) (a b : Seen) : Type 0 where
  pub line : List ℕ
  pub number : ℕ
  pub next : IsNext a.left b.left line
  pub taken : IsTaken W number (without_terminator line) a.said b.said

-- so many lines were entered, one after another
abbrev pub Reached : ℕ → Seen → Seen → Type 0
Reached zero a c = c ≡ a
Reached (suc n) a c = (b : Seen) × Reached n a b × IsEntered Took b c

-- nothing more is heard; or the sink took a beginning of what the last line came to
abbrev pub IsBroken : Seen → Seen → Type 0
IsBroken a b = IsUnheard a.said b.said ⊎ IsEntered TookBeginning a b

-- no line is left, or the next one is `.quit`; and nothing more is heard
pub record IsOver (a b : Seen) : Type 0 where
  pub why : IsAtEnd a.left ⊎ IsQuit a.left b.left
  pub unheard : IsUnheard a.said b.said

-- how it ends: without a failure it is over
abbrev pub Ends : Option Refusal → Seen → Seen → Type 0
Ends None a b = IsOver a b
Ends (Some e) a b = IsBroken a b

-- what one turn comes to: a line was entered, or it is over
abbrev pub Turned : Result Bool Refusal → Seen → Seen → Type 0
Turned (Ok true) a b = IsEntered Took a b
Turned (Ok false) a b = IsOver a b
Turned (Err e) a b = IsBroken a b

-- lines were entered, each of which was answered before the next one, until it ended
pub record Talked (failure : Option Refusal) (first last : Seen) : Type 0 where
  pub lines : ℕ
  pub before : Seen
  pub reached : Reached lines first before
  pub ends : Ends failure before last

-- What a shell leaves over a table of these attributes and rows, through whose console went what parts new from old: the history
-- of one thread over a plain list of rows, from the rows of the table and its attributes with the texts that came, in which the
-- calls that were answered, and no others, are those of session 1.
pub record IsLeft (columns : List Column) (rows : List Row) (limit : ℕ) (old new : Traffic) (failure : Option Refusal) (h : History)
    : Type 0 where
  pub last : Seen
  pub talked : Talked failure (seen (said columns [] old.taken) old.left) last
  pub wrote : last.said.taken ≡ new.taken
  pub left : last.left ≡ new.left
  pub history : IsHistoryOfOneThread last.said.columns rows limit ((1, last.said.made) ∷ []) h
