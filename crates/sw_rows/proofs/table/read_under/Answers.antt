use Rattle.std.proofs.Common.{◌≡◌, ◌∙◌, ap, sym, subst, Ok, List, ℕ, ◌++◌, []}
use Rattle.sw_rows.specs.Domains.{under}
use Rattle.sw_rows.specs.Gives.{Fails}
use Rattle.sw_rows.specs.Header.{holding, kinds_of}
use Rattle.sw_rows.specs.Records.{records_left}
use Rattle.sw_rows.specs.Tables.{rows_after, seeing, texts_in}
use Rattle.sw_rows.specs.Texts.{with_texts}
use Rattle.sw_rows.proofs.Schemas.DomainLaws.{kinds_of_texts}
use Rattle.sw_rows.proofs.Tables.TableLemmas.{no_texts_in, table_fails, table_read}
use Rattle.sw_rows.proofs.table.read_under.Goals as goal

pub into_schema-requires-clause-none : goal.into_schema-requires-clause-none
into_schema-requires-clause-none c = λ h. c.in-Ok.ensures.learned ∙ ap (with_texts c.no_texts-texts.result) (no_texts_in (kinds_of c.args.columns) (records_left c.args.records.now.rdr) (kinds_of_texts c.args.columns ∙ h)) ∙ c.no_texts-texts.ensures

pub returns-in-Ok-clause-gives : goal.returns-in-Ok-clause-gives
returns-in-Ok-clause-gives c =
    let rs = records_left c.args.records.now.rdr in
    let ds = kinds_of c.args.columns in
    let read = subst (λ (us : List (List ℕ)). rows_after (under (with_texts us (texts_in ds rs ++ [])) ds) [] rs ≡ Ok c.in-Ok.rows.items) c.no_texts-texts.ensures (c.in-Ok.ensures.gives []) in
    let columns : c.into_schema.result ≡ seeing c.args.columns rs = c.into_schema.ensures.schema ∙ ap (λ us. holding us c.args.columns) (c.in-Ok.ensures.learned ∙ ap (λ (us : List (List ℕ)). with_texts us (texts_in ds rs)) c.no_texts-texts.ensures) in
    table_read c.args.columns rs c.in-Ok.rows.items read ∙ ap (λ cs. Ok (record { columns = cs; rows = c.in-Ok.rows.items })) (sym columns)

pub returns-in-Err-clause-gives : goal.returns-in-Err-clause-gives
returns-in-Err-clause-gives c =
    let rs = records_left c.args.records.now.rdr in
    let ds = kinds_of c.args.columns in
    table_fails c.args.columns rs c.in-Err.e (subst (λ (us : List (List ℕ)). Fails ⊥ c.in-Err.e (rows_after (under (with_texts us (texts_in ds rs ++ [])) ds) [] rs)) c.no_texts-texts.ensures (c.in-Err.ensures.gives []))
