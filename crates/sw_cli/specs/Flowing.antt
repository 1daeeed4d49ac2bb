-- What calls come to whose lines go out as each is answered.
use Rattle.std.specs.Prelude.{ℕ, List, ◌++◌, Result}
use Rattle.sw_query.specs.declared.refusal.Refusal.{Refusal}
use Rattle.sw_rows.specs.Header.{Column}
use Rattle.sw_table.specs.declared.row.Row.{Row}
use Rattle.sw_query.specs.declared.query.Call.{Call}
use Rattle.sw_lang.specs.Cuts.{CutLists}
use Rattle.sw_lang.specs.Sinks.{Writes}
use Rattle.sw_spine.specs.History.{History}
use Rattle.sw_engine.specs.Published.{Shown}
use Rattle.sw_cli.specs.Outcomes.{AllSayWhy, AreTold, Told, block_bytes, blocks_told, line_before, outcomes_of, text_of}
use Rattle.sw_cli.specs.Served.{AreAnswered, IsDone}
use Rattle.sw_cli.specs.Sides.{SinkSeen}
use Rattle.sw_cli.specs.Starts.{Goes}
use Rattle.sw_cli.specs.declared.flowing.Page.{Page}
use Rattle.sw_cli.specs.declared.flowing.Pages.{Pages}

-- a sink took all of a text, or failed and took a beginning
abbrev pub PutsOut : SinkSeen → Result (Unit {0}) Refusal → List ℕ → Type 0
PutsOut w result text = Writes w.taken_before w.taken_after w.failed_before w.failed_after result text

-- the calls of a page were made by a session, until the sink failed, and the line before the page and their lines went
-- out; what was not called counts as refused, which leaves nothing
pub record FlowsPage (p : Page) (session ticket : Shown) (result : Result (Unit {0}) Refusal) (w : SinkSeen) : Type 0 where
  pub told : List Told
  pub done : IsDone session.0 p.calls ticket told
  pub out : PutsOut w result (line_before p.place ++ block_bytes p.schema.now (outcomes_of p.calls told))

-- so were those of all pages, each by the session of the ticket at its place
pub record FlowsPages (ps : Pages) (tickets : List Shown) (result : Result (Unit {0}) Refusal) (w : SinkSeen) : Type 0 where
  pub told : List (List Told)
  pub all : AreTold ps.blocks.items told
  pub why : AllSayWhy (blocks_told ps.blocks.items told)
  pub are : AreAnswered 1 (blocks_told ps.blocks.items told) tickets
  pub out : PutsOut w result (text_of ps.schema.now (blocks_told ps.blocks.items told))

-- what the calls of these blocks leave, over a table of these attributes and rows, whatever the cuts are
abbrev pub Turns : List Column → List Row → List (List Call) → ℕ → SinkSeen → Result History Refusal → Type 0
Turns columns rows blocks limit w result =
    (cuts : CutLists) → Goes limit (record { columns = columns; rows = rows; blocks = blocks; cuts = cuts }) w result
