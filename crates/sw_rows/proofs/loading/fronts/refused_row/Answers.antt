use Rattle.std.proofs.Common.{◌≡◌, ◌++◌, [], List, ℕ, Err, arith, subst}
use Rattle.std.proofs.lemmas.List.{length-map}
use Rattle.sw_rows.specs.Domains.{under}
use Rattle.sw_rows.specs.Gives.{Fails}
use Rattle.sw_query.specs.declared.refusal.Refusal.TheVariants as refusal
use Rattle.sw_rows.specs.Header.{bad_table, kinds_of}
use Rattle.sw_rows.specs.Records.{records_left}
use Rattle.sw_rows.specs.Tables.{rows_after, texts_in}
use Rattle.sw_rows.specs.Texts.{with_texts}
use Rattle.sw_rows.proofs.Loads.Beginnings.{table_begins}
use Rattle.sw_rows.proofs.loading.fronts.refused_row.Goals as goal

pub returns-in-Err-BadTable : goal.returns-in-Err-BadTable
returns-in-Err-BadTable c = λ all b.
    let cs = c.args.columns.now in
    let ds = kinds_of cs in
    let rs = records_left c.args.records.now.rdr in
    let rec = c.in-Err-BadTable.rec in
    let field = c.in-Err-BadTable.field in
    let reads = λ (more : List (List ℕ)).
    let told : Fails ⊥ (refusal.BadTable rec field) (rows_after (under (with_texts c.no_texts-texts.result (texts_in ds rs ++ more)) ds) [] rs) = rw c.in-Err-BadTable.field-0-is at (c.in-Err-BadTable.ensures.gives more) in
    subst (λ (us : List (List ℕ)). rows_after (under (with_texts us (texts_in ds rs ++ more)) ds) [] rs ≡ Err (bad_table rec field)) c.no_texts-texts.ensures told in
    let width = length-map cs (λ c. c.1) in
    table_begins cs rs all rec field reads (omega (arith, width, c.len-most.ensures.value, c.if-field-most.true)) (omega (arith, c.if-rec-count.true, c.requires.count)) b
