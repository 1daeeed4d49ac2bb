-- What is known of what a run starts from, what it answers, and why it is refused.
use Rattle.std.specs.Prelude.{◌≡◌, ◌<◌, ◌≤◌, ◌∷◌, ℕ, true, List, [], length, Option, Some, None, IfSome, Result, Ok, Err}
use Rattle.sw_lang.specs.Cuts.{AreCuts, cuts_on}
use Rattle.sw_lang.specs.Sinks.{Took}
use Rattle.sw_rows.specs.Header.{Column}
use Rattle.sw_query.specs.declared.query.Call.{Call}
use Rattle.sw_query.specs.declared.refusal.Refusal.{Refusal}
use Rattle.sw_query.specs.declared.refusal.Refusal.TheVariants as refusal
use Rattle.sw_spine.specs.History.{History}
use Rattle.sw_spine.specs.Table.{is_numbered}
use Rattle.sw_cli.specs.Outcomes.{Outcome}
use Rattle.sw_cli.specs.Run.{AllAnswered, Began, Leaves, Start, TellsAll, out_of, script_of, start_of}
use Rattle.sw_cli.specs.Script.{AreBlocks, Script}
use Rattle.sw_cli.specs.Sides.{FailedInTurn, IsUntouched, SinkFailed, SinkHeld, SinkSeen, SourceFailed, SourceSeen, source_by}
use Rattle.sw_cli.specs.declared.running.Options.{Options}
use Rattle.sw_cli.specs.declared.start.Inputs.{Inputs}
use Rattle.sw_rows.specs.declared.source.Source as source

abbrev pub start_seen : Inputs → Start
start_seen o = record { columns = o.schema; rows = o.rows.items; blocks = o.blocks.items; cuts = o.cuts }

-- one to eight attributes, rows within the limit with the keys 1, 2, 3 and so on, blocks of calls on the attributes of
-- the table, which are not too many, and cuts that rise, at most 15 of an attribute
pub record IsStart (limit : ℕ) (s : Start) : Type 0 where
  pub wide : length s.columns ≤ 8
  pub some : 0 < length s.columns
  pub numbered : is_numbered 1 s.rows ≡ true
  pub few : length s.rows ≤ limit
  pub blocks : AreBlocks (length s.columns) s.blocks
  pub lists : length s.cuts ≡ length s.columns
  pub cuts : (a : ℕ) → a < length s.columns → AreCuts (cuts_on s.cuts a)

-- a refusal is the one that was said; or it tells of memory, or of a source, where I holds
abbrev pub RefusedFrom : {Y : Type 0} → Type 0 → Refusal → Result Y Refusal → Type 0
RefusedFrom I refusal.NoMemory said = Unit {0}
RefusedFrom I refusal.Input said = I
RefusedFrom I e said = said ≡ Err e

-- an answer, seen by view, is what was said
abbrev pub ReadsFrom : {X Y : Type 0} → Type 0 → (X → Y) → Result X Refusal → Result Y Refusal → Type 0
ReadsFrom I view (Ok x) said = said ≡ Ok (view x)
ReadsFrom {X} {Y} I view (Err e) said = RefusedFrom {Y = Y} I e said

-- a fact of two lists of bytes, where both are known
abbrev pub IfBoth : Option (List ℕ) → Option (List ℕ) → (List ℕ → List ℕ → Type 0) → Type 0
IfBoth (Some a) (Some b) P = P a b
IfBoth (Some a) None P = Unit {0}
IfBoth None b P = Unit {0}

-- what is answered of the script of a source, seen by view: what its bytes spell
abbrev pub ReadsScript : {X : Type 0} → List Column → SourceSeen → (X → Script) → Result X Refusal → Type 0
ReadsScript columns s view result =
    IfSome s.left (λ bytes. ReadsFrom (SourceFailed s) view result (script_of columns bytes))

-- what is answered of the sources of table and script: the start that their bytes spell
abbrev pub ReadsStart : ℕ → List ℕ → SourceSeen → SourceSeen → Result Inputs Refusal → Type 0
ReadsStart limit cuts t s result =
    IfBoth t.left s.left (λ a b. ReadsFrom (FailedInTurn t s a) start_seen result (start_of limit cuts a b))

-- the same of a run's options, and of two sources, each from one moment to another
abbrev pub StartsBy :
    {T S : Type 0} → Options → source.Ghosts T → T → T → source.Ghosts S → S → S → Result Inputs Refusal → Type 0
StartsBy o t a b s c d result = ReadsStart o.limit o.cuts.now (source_by t a b) (source_by s c d) result

-- a refusal before any call; that of a source only where I holds
abbrev pub TellsStart : Type 0 → Refusal → Type 0
TellsStart I refusal.NoMemory = Unit {0}
TellsStart I (refusal.BadTable rec field) = Unit {0}
TellsStart I (refusal.BadLine line why) = Unit {0}
TellsStart I (refusal.UnknownAttribute name) = Unit {0}
TellsStart I (refusal.TooMany limit) = Unit {0}
TellsStart I refusal.Input = I
TellsStart I e = ⊥

-- a refusal of a run; that of a source only where I holds, and that of the sink only where O does
abbrev pub TellsRun : Type 0 → Type 0 → Refusal → Type 0
TellsRun I O refusal.Output = O
TellsRun I O e = TellsStart I e

-- some outcomes of the calls of a start, of which the record is, and whose lines the sink took
abbrev pub LeavesSome : ℕ → Start → Option (List ℕ) → Option (List ℕ) → History → Type 0
LeavesSome limit s old new h = (told : List (List Outcome)) × Leaves limit s told old new h

-- what calls leave that were begun from a start: a record of their outcomes, whose lines the sink took; or nothing, for
-- want of memory; or a refusal of the sink, which took a beginning of such lines
abbrev pub Goes : ℕ → Start → SinkSeen → Result History Refusal → Type 0
Goes limit s w (Ok h) = LeavesSome limit s w.taken_before w.taken_after h × SinkHeld w
Goes limit s w (Err refusal.NoMemory) = IsUntouched w
Goes limit s w (Err refusal.Output) = Began limit s w.taken_before w.taken_after × SinkFailed w
Goes limit s w (Err e) = ⊥

-- What a run answers: a record of the calls that the bytes spell, each with its outcome, whose lines the sink took; or
-- a refusal of the sink, which took a beginning of such lines; or, before any call, the refusal of what the bytes
-- spell.
abbrev pub Ran :
    Type 0 → ℕ → List ℕ → List ℕ → List ℕ → Option (List ℕ) → Option (List ℕ) → Result History Refusal → Type 0
Ran I limit cuts table script old new (Ok h) =
    (s : Start) × (start_of limit cuts table script ≡ Ok s) × LeavesSome limit s old new h
Ran I limit cuts table script old new (Err refusal.Output) =
    (s : Start) × (start_of limit cuts table script ≡ Ok s) × Began limit s old new
Ran I limit cuts table script old new (Err e) = RefusedFrom I e (start_of limit cuts table script)

-- where each session has an answered call for each call of its block, the record has the calls of the blocks, and the
-- sink took the lines of their replies
abbrev pub TellsWhere : ℕ → List ℕ → List ℕ → List ℕ → Option (List ℕ) → Option (List ℕ) → History → Type 0
TellsWhere limit cuts table script old new h =
    (s : Start) → start_of limit cuts table script ≡ Ok s → AllAnswered s.blocks h → TellsAll s old new h

-- and where the script has one block, the lines are those of the plain table's replies, and nothing else
abbrev pub WritesOut : ℕ → List ℕ → List ℕ → List ℕ → Option (List ℕ) → Option (List ℕ) → History → Type 0
WritesOut limit cuts table script old new h =
    (s : Start) (calls : List Call) → start_of limit cuts table script ≡ Ok s → s.blocks ≡ calls ∷ []
    → AllAnswered s.blocks h → Took old new (out_of limit s calls)
