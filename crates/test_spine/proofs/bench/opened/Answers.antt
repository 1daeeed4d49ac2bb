use Rattle.std.proofs.Common.{◌≡◌, ◌<◌, length, sym, ◌∙◌, ap, arith, rules}
use Rattle.sw_table.specs.Updates.{rows_of}
use Rattle.sw_spine.specs.Books.{Books, new_books, took, waits_for, with_session}
use Rattle.sw_spine.proofs.Runs.{took_new}
use Rattle.sw_spine.proofs.StoreLemmas.{rows_of_opened}
use Rattle.test_spine.proofs.bench.opened.Goals as goal

pub returns : goal.returns
returns c =
    let rows = c.in-Ok.rows.items in
    let columns = c.in_ok-schema.schema in
    let b : Books = new_books columns rows c.args.limit in
    let is : c.open_two.new.spine ≡ with_session (with_session b) = c.in_ok-open_two.ensures ∙ ap (λ (o : Books). with_session (with_session o)) c.in_ok-spine.ensures.1 in
    let some : 0 < 8 = omega arith in
    let three : length columns ≡ 3 = search rules in
    let copied : c.args.rows.now ≡ rows = sym c.in-Ok.ensures.rows in
    let taken : rows_of (took 0 b) ≡ rows = ap rows_of (took_new columns rows c.args.limit 0 some) ∙ rows_of_opened rows in
    record {
      sessions = ap (λ (o : Books). o.sessions) is;
      columns = ap (λ (o : Books). length o.columns) is ∙ three;
      first = ap (waits_for 1) is;
      second = ap (waits_for 2) is;
      kept = copied ∙ (sym taken ∙ ap (λ (o : Books). rows_of (took 0 o)) (sym is));
    }
