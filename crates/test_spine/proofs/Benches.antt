-- A select that began waits for its reply.
use Rattle.std.proofs.Common.{◌≡◌, ◌≢◌, List, Some, length, fold, sym, ◌∙◌, ap, arith, take-append-drop}
use Rattle.std.specs.List.{slice_index}
use Rattle.sw_table.specs.Updates.{rows_of, rows_then}
use Rattle.sw_table.specs.declared.row.Row.{Row}
use Rattle.sw_table.specs.declared.row.Update.{Update}
use Rattle.sw_query.specs.Scan.{answer}
use Rattle.sw_query.specs.declared.query.Query.{Query}
use Rattle.sw_query.specs.declared.reply.Reply.{Reply}
use Rattle.sw_spine.specs.Books.{Books, KeepsOthers, took, untaken, updates, waits_for, with_open}
use Rattle.test_spine.specs.Benches.{IsAsked, IsAtRest}
use Rattle.sw_spine.proofs.StoreLemmas.{rows_of_more}
use Rattle.sw_query.specs.declared.query.Call.TheVariants.{Select}

-- a list that was what a head took takes the rest
pub took_all : (b n : Books) (rows new : List Row) (inbox : List Update) → rows ≡ rows_of (took 0 b) → inbox ≡ untaken 0 b → new ≡ fold rows_then rows inbox → took 0 n ≡ updates b → new ≡ rows_of (took 0 n)
took_all b n rows new inbox were are is taken =
    rw taken (is ∙ (ap (λ rs. fold rows_then rs inbox) were ∙ (ap (λ us. fold rows_then (rows_of (took 0 b)) us) are ∙ (rows_of_more (took 0 b) (untaken 0 b) ∙ ap rows_of (take-append-drop (slice_index b.taken 0) (updates b))))))

-- after a select began for head 0, and the list took the updates
pub asked_of : (b n : Books) (query copy : Query) (rows new : List Row) (inbox : List Update) (reply : Reply) → IsAtRest b rows → copy ≡ query → n ≡ with_open 2 copy 0 b → waits_for 2 n ≡ Some (Select copy, updates b) → KeepsOthers 2 b n → took 0 n ≡ updates b → inbox ≡ untaken 0 b → new ≡ fold rows_then rows inbox → reply ≡ answer new query → IsAsked reply n new
asked_of b n query copy rows new inbox reply rest same begun waits others taken all is answered =
    let apart : 1 ≢ 2 = λ e. omega (arith, e) in
    let kept : new ≡ rows_of (took 0 n) = took_all b n rows new inbox rest.kept all is taken in
    let fits : reply ≡ answer (rows_of (updates b)) copy = answered ∙ (ap (λ rs. answer rs query) (kept ∙ ap rows_of taken) ∙ ap (answer (rows_of (updates b))) (sym same)) in
    record {
      sessions = ap (λ (o : Books). o.sessions) begun ∙ rest.sessions;
      columns = ap (λ (o : Books). length o.columns) begun ∙ rest.columns;
      first = others.waits 1 apart ∙ rest.first;
      second = rw waits fits;
      kept = kept;
    }
