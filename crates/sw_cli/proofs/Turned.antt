-- What the calls of a run leave that were made block after block, when its engine was closed.
use Rattle.std.proofs.Common.{◌≡◌, ◌∙◌, sym, subst, refl, ℕ, List, length, map, All, arith, Result, Ok, Err}
use Rattle.std.proofs.lemmas.Bool.{false≢true}
use Rattle.std.specs.Prelude.{IsOk}
use Rattle.sw_rows.specs.Header.{Column}
use Rattle.sw_table.specs.declared.row.Row.{Row}
use Rattle.sw_query.specs.declared.query.Call.{Call}
use Rattle.sw_query.specs.declared.refusal.Refusal.{Refusal}
use Rattle.sw_spine.specs.History.{History, IsLegal}
use Rattle.sw_spine.specs.declared.history.Entry.{Entry}
use Rattle.sw_engine.specs.Desk.{AreAll}
use Rattle.sw_engine.specs.Headline.{IsHistoryOfOneThread}
use Rattle.sw_engine.specs.Own.{IsEnded}
use Rattle.sw_engine.specs.Published.{Shown, answered_to}
use Rattle.sw_cli.specs.Flowing.{PutsOut}
use Rattle.sw_cli.specs.Outcomes.{AllSayWhy, AreTold, Told, blocks_told, text_of}
use Rattle.sw_cli.specs.Run.{IsRecordOf}
use Rattle.sw_cli.specs.Served.{AreAnswered}
use Rattle.sw_cli.specs.Sides.{SinkSeen}
use Rattle.sw_cli.proofs.Legal.{over_columns}
use Rattle.sw_cli.proofs.Outcomes.{told_many}
use Rattle.sw_cli.proofs.Pages.{length_blocks, named_last}
use Rattle.sw_cli.proofs.Records.{answered_many, record_of}

-- what came of blocks over attributes
abbrev pub Flown : List Column → List (List Call) → List Shown → Result (Unit {0}) Refusal → SinkSeen → Type 0
Flown columns blocks tickets result w =
    (told : List (List Told)) × AreTold blocks told × AllSayWhy (blocks_told blocks told) × AreAnswered 1 (blocks_told blocks told) tickets
    × PutsOut w result (text_of columns (blocks_told blocks told))

-- what is answered is an answer
pub answered_not : {A E : Type 0} (r : Result A E) → IsOk r → ((x : A) → r ≡ Ok x → ⊥) → ⊥
answered_not (Ok x) ok none = none x refl
answered_not (Err e) ok none = false≢true ok

-- all tickets came back
pub all_back : (most : ℕ) (blocks : List (List Call)) (told : List (List Told)) (tickets : List Shown) → most ≡ length blocks → AreTold blocks told → AreAnswered 1 (blocks_told blocks told) tickets → AreAll most tickets
all_back most blocks told tickets is all are =
    let many : length (blocks_told blocks told) ≡ most = length_blocks blocks told (told_many blocks told all) ∙ sym is in (
      answered_many 1 (blocks_told blocks told) tickets are ∙ many,
      λ some. named_last 1 most (blocks_told blocks told) tickets are (omega (arith, some, many)) (omega (arith, many)),
    )

-- the record over the attributes that know the texts
pub turned_record : (columns schema : List Column) (rows : List Row) (limit : ℕ) (blocks : List (List Call)) (told : List (List Told)) (tickets : List Shown) (h k : History)
    → AreAnswered 1 (blocks_told blocks told) tickets → IsHistoryOfOneThread columns rows limit (map answered_to tickets) h → All (IsEnded h.entries) tickets
    → k.columns ≡ schema → k.rows ≡ h.rows → k.limit ≡ h.limit → k.entries ≡ h.entries → (IsLegal h → IsLegal k) → IsRecordOf schema rows limit (blocks_told blocks told) k
turned_record columns schema rows limit blocks told tickets h k are one ended is same_rows same_limit same legal =
    record_of schema rows limit (blocks_told blocks told) tickets k are (over_columns columns schema rows limit (map answered_to tickets) h k one is same_rows same_limit same legal)
    (subst (λ (es : List Entry). All (IsEnded es) tickets) (sym same) ended)
