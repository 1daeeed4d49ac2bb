-- What is over texts: what a run starts from, and what is replied.
use Rattle.std.specs.Prelude.{◌≡◌, ◌∷◌, [], ℕ, All, List, Ok, Option}
use Rattle.sw_rows.specs.Header.{Column, IsSchema, kinds_of}
use Rattle.sw_rows.specs.TextRows.{AreCoded}
use Rattle.sw_query.specs.declared.query.Call.{Call}
use Rattle.sw_query.specs.declared.reply.Reply.{Reply}
use Rattle.sw_spine.specs.History.{History}
use Rattle.sw_spine.specs.Table.{opened, updates_then}
use Rattle.sw_spine.specs.declared.history.Entry.{Entry}
use Rattle.sw_engine.specs.Headline.{IsHistoryOfOneThread}
use Rattle.sw_table.specs.Updates.{rows_of}
use Rattle.sw_table.specs.declared.row.Row.{Row}
use Rattle.sw_table.specs.declared.row.Update.{Update}
use Rattle.sw_cli.specs.Outcomes.{Outcome}
use Rattle.sw_cli.specs.Run.{Leaves, Start, start_of}
use Rattle.sw_cli.specs.TextCalls.{AreEntriesOverTexts, AreRepliesOverTexts, IsOverTexts}

-- it holds of each start that bytes spell, and of its limit
abbrev pub OfStarts : (ℕ → Start → Type 0) → Type 0
OfStarts P =
    (limit : ℕ) (cuts table script : List ℕ) (s : Start) → start_of limit cuts table script ≡ Ok s → P limit s

-- rows stay coded as a call over texts comes
abbrev pub CallsKeepCodes : Type 0
CallsKeepCodes =
    (columns : List Column) (limit : ℕ) (us : List Update) (c : Call)
    → AreCoded (kinds_of columns) (rows_of us) → IsOverTexts columns c
    → AreCoded (kinds_of columns) (rows_of (updates_then limit us c))

-- the plain table's replies to such calls are over texts
abbrev pub RepliesAreOverTexts : Type 0
RepliesAreOverTexts =
    (columns : List Column) (limit : ℕ) (us : List Update) (calls : List Call) → IsSchema columns
    → AreCoded (kinds_of columns) (rows_of us) → All (IsOverTexts columns) calls
    → AreRepliesOverTexts columns limit us calls

-- so are those to a script of one block
abbrev pub RepliesOfOneBlock : ℕ → Start → Type 0
RepliesOfOneBlock limit s =
    (calls : List Call) → s.blocks ≡ calls ∷ [] → AreRepliesOverTexts s.columns limit (opened s.rows) calls

-- and those that the record of a run gives
abbrev pub RecordIsOverTexts : ℕ → Start → Type 0
RecordIsOverTexts limit s =
    (told : List (List Outcome)) (old new : Option (List ℕ)) (h : History) → Leaves limit s told old new h
    → AreEntriesOverTexts s.columns limit (opened s.rows) h.entries

-- a table of texts from which an engine was opened, and the record that it was closed with, whose calls are over texts
pub record IsClosedOverTexts (columns : List Column) (rows : List Row) (limit : ℕ)
    (tickets : List (ℕ × List (Call × Reply))) (h : History) : Type 0 where
  pub history : IsHistoryOfOneThread columns rows limit tickets h
  pub schema : IsSchema columns
  pub coded : AreCoded (kinds_of columns) rows
  pub calls : All (λ (e : Entry). IsOverTexts columns e.call) h.entries

-- the replies that such a record gives are over texts
abbrev pub ClosedIsOverTexts : Type 0
ClosedIsOverTexts =
    (columns : List Column) (rows : List Row) (limit : ℕ) (tickets : List (ℕ × List (Call × Reply))) (h : History)
    → IsClosedOverTexts columns rows limit tickets h → AreEntriesOverTexts columns limit (opened rows) h.entries
