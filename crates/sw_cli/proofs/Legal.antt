-- A legal history of replies as they were given is legal over any attributes.
use Rattle.std.proofs.Common.{◌≡◌, ◌∙◌, ◌⊎◌, ap, sym, subst, ℕ, true, All, List}
use Rattle.sw_rows.specs.Header.{Column}
use Rattle.sw_query.specs.declared.query.Call.{Call}
use Rattle.sw_query.specs.declared.reply.Reply.{Reply}
use Rattle.sw_table.specs.declared.row.Row.{Row}
use Rattle.sw_spine.specs.History.{History, IsLegal, all_given, history, is_absent, mine}
use Rattle.sw_spine.specs.Rest.{none_open}
use Rattle.sw_engine.specs.Desk.{IsNamed}
use Rattle.sw_engine.specs.Headline.{IsHistoryOfOneThread}
use Rattle.sw_spine.specs.Table.{opened}
use Rattle.sw_spine.specs.declared.history.Entry.{Entry}
use Rattle.sw_spine.proofs.Spines.{agree_over}

-- a history is legal over others, where the rest is the same
pub legal_over : (h : History) (a b : List Column) (rows : List Row) (limit : ℕ) (es : List Entry) → h ≡ history a rows limit es → all_given h.entries ≡ true → IsLegal h → IsLegal (history b rows limit es)
legal_over h a b rows limit es is given legal =
    agree_over a b limit (opened rows) es (subst (λ (k : History). all_given k.entries ≡ true) is given) (subst (λ (k : History). IsLegal k) is legal)

-- what one thread's history is over its attributes, it is over others, where the rest is the same
pub over_columns : (a b : List Column) (rows : List Row) (limit : ℕ) (ts : List (ℕ × List (Call × Reply))) (h k : History)
    → IsHistoryOfOneThread a rows limit ts h → k.columns ≡ b → k.rows ≡ h.rows → k.limit ≡ h.limit → k.entries ≡ h.entries
    → (IsLegal h → IsLegal k) → IsHistoryOfOneThread b rows limit ts k
over_columns a b rows limit ts h k one columns same_rows same_limit same legal = record {
  columns_are = columns;
  rows_are = same_rows ∙ one.rows_are;
  limit_is = same_limit ∙ one.limit_is;
  legal = legal one.legal;
  given = ap all_given same ∙ one.given;
  answered = subst (λ (es : List Entry). All (λ (t : ℕ × List (Call × Reply)). mine t.0 es ≡ t.1) ts) (sym same) one.answered;
  numbered = one.numbered;
  others = subst (λ (es : List Entry). (s : ℕ) → (is_absent s es ≡ true) ⊎ IsNamed s ts) (sym same) one.others;
  closed = ap none_open same ∙ one.closed;
}
