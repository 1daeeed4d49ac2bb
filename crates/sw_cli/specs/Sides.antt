-- What is known of a run's two sources and of its sink: their bytes, where these are told, and counts of failures.
use Rattle.std.specs.Prelude.{◌≡◌, ◌⊎◌, ℕ, List, Option, Ok}
use Rattle.std.specs.Io.KnownBytes.{Keeps}
use Rattle.sw_rows.specs.Gives.{Raised}
use Rattle.sw_rows.specs.Tables.{Table, table_of}
use Rattle.sw_rows.specs.declared.source.Sink as sink
use Rattle.sw_rows.specs.declared.source.Source as source

-- a source: the bytes that it had left, and its failures before and after
pub record SourceSeen : Type 0 where
  pub left : Option (List ℕ)
  pub failed_before : ℕ
  pub failed_after : ℕ

abbrev pub source_seen : Option (List ℕ) → ℕ → ℕ → SourceSeen
source_seen left before after = record { left = left; failed_before = before; failed_after = after }

-- a source from one moment to another, by what its trait tells of it
abbrev pub source_by : {S : Type 0} → source.Ghosts S → S → S → SourceSeen
source_by s old new = source_seen (s.left old) (s.failed old) (s.failed new)

-- a sink: the bytes that it had taken before and after, and its failures before and after
pub record SinkSeen : Type 0 where
  pub taken_before : Option (List ℕ)
  pub taken_after : Option (List ℕ)
  pub failed_before : ℕ
  pub failed_after : ℕ

abbrev pub sink_seen : Option (List ℕ) → Option (List ℕ) → ℕ → ℕ → SinkSeen
sink_seen taken_before taken_after before after =
    record { taken_before = taken_before; taken_after = taken_after; failed_before = before; failed_after = after }

-- a sink from one moment to another, by what its trait tells of it
abbrev pub sink_by : {W : Type 0} → sink.Ghosts W → W → W → SinkSeen
sink_by w old new = sink_seen (w.taken old) (w.taken new) (w.failed old) (w.failed new)

-- the source failed
abbrev pub SourceFailed : SourceSeen → Type 0
SourceFailed s = Raised s.failed_before s.failed_after

-- one of the sources of table and script failed
abbrev pub EitherFailed : SourceSeen → SourceSeen → Type 0
EitherFailed t s = SourceFailed t ⊎ SourceFailed s

-- these bytes spell a table
abbrev pub SpellTable : List ℕ → Type 0
SpellTable bytes = (t : Table) × (table_of bytes ≡ Ok t)

-- The source of a table of these bytes failed; or that of the script did, which is read only after a sound table.
abbrev pub FailedInTurn : SourceSeen → SourceSeen → List ℕ → Type 0
FailedInTurn t s bytes = SourceFailed t ⊎ (SpellTable bytes × SourceFailed s)

-- no source failed
abbrev pub SourcesHeld : SourceSeen → SourceSeen → Type 0
SourcesHeld t s = (t.failed_after ≡ t.failed_before) × (s.failed_after ≡ s.failed_before)

-- the same of two sources, each from one moment to another: one failed, or none
abbrev pub FailedBy : {T S : Type 0} → source.Ghosts T → T → T → source.Ghosts S → S → S → Type 0
FailedBy t a b s c d = EitherFailed (source_by t a b) (source_by s c d)

abbrev pub HeldBy : {T S : Type 0} → source.Ghosts T → T → T → source.Ghosts S → S → S → Type 0
HeldBy t a b s c d = SourcesHeld (source_by t a b) (source_by s c d)

-- the sink failed
abbrev pub SinkFailed : SinkSeen → Type 0
SinkFailed w = Raised w.failed_before w.failed_after

-- the sink did not fail
abbrev pub SinkHeld : SinkSeen → Type 0
SinkHeld w = w.failed_after ≡ w.failed_before

-- the sink took nothing and did not fail
abbrev pub IsUntouched : SinkSeen → Type 0
IsUntouched w = Keeps w.taken_before w.taken_after × SinkHeld w
