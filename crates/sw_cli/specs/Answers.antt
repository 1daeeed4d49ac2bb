-- What a run answers.
use Rattle.std.specs.Prelude.{◌≡◌, ℕ, List, Result, IfErr, IfOk, OnOk}
use Rattle.sw_query.specs.declared.refusal.Refusal.{Refusal}
use Rattle.sw_query.specs.declared.refusal.Refusal.TheVariants as refusal
use Rattle.sw_spine.specs.History.{History, IsLegal}
use Rattle.sw_cli.specs.Run.{Start}
use Rattle.sw_cli.specs.Sides.{EitherFailed, FailedInTurn, IsUntouched, SinkFailed, SinkHeld, SinkSeen, SourceSeen, SourcesHeld, sink_by, source_by}
use Rattle.sw_cli.specs.Starts.{IfBoth, LeavesSome, Ran, TellsRun, TellsWhere, WritesOut}
use Rattle.sw_cli.specs.declared.running.Options.{Options}
use Rattle.sw_rows.specs.declared.source.Sink as sink
use Rattle.sw_rows.specs.declared.source.Source as source

-- a record of the history, or why there is none
abbrev pub Answer : Type 0
Answer = Result History Refusal

-- A run of this limit and these cuts, over the sources of a table t and a script s, to a sink w.
pub record RunAnswers (limit : ℕ) (cuts : List ℕ) (t s : SourceSeen) (w : SinkSeen) (result : Answer) : Type 0 where
  -- where the bytes of the sources are known, the answer is that of what they spell
  pub ran : IfBoth t.left s.left (λ a b. Ran (FailedInTurn t s a) limit cuts a b w.taken_before w.taken_after result)
  -- where each call was answered, the record has the blocks' calls, and the sink took the lines of their replies
  pub tells : IfBoth t.left s.left (λ a b. IfOk result (TellsWhere limit cuts a b w.taken_before w.taken_after))
  -- and of a script of one block these are the lines of the plain table's replies
  pub out : IfBoth t.left s.left (λ a b. IfOk result (WritesOut limit cuts a b w.taken_before w.taken_after))
  -- whatever the sources are, the record is of outcomes of the calls that were read
  pub left : IfOk result (λ h. (start : Start) × LeavesSome limit start w.taken_before w.taken_after h)
  -- with a record, neither a source nor the sink has failed
  pub steady : OnOk result (SourcesHeld t s × SinkHeld w)
  -- the record is legal
  pub legal : IfOk result IsLegal
  -- refused otherwise than by the sink, nothing was written
  pub quiet : IfErr result (λ e. (e ≡ refusal.Output → ⊥) → IsUntouched w)
  -- why a run is refused: that of a source comes only where one failed, that of the sink only where it failed
  pub told : IfErr result (TellsRun (EitherFailed t s) (SinkFailed w))

-- A run by its options, over the source of a table, that of a script and a sink, each from one moment to another.
abbrev pub RunsBy :
    {T S W : Type 0} → Options → source.Ghosts T → T → T → source.Ghosts S → S → S → sink.Ghosts W → W → W → Answer → Type 0
RunsBy o t a b s c d w e f result =
    RunAnswers o.limit o.cuts.now (source_by t a b) (source_by s c d) (sink_by w e f) result
