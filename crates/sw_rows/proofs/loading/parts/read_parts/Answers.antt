use Rattle.std.proofs.Common.{◌≡◌, ◌∙◌, ap, sym, List, ℕ, ◌∷◌, ◌++◌, [], Ok, take, drop}
use Rattle.csv.specs.Reading.{default_config, records, strip_bom}
use Rattle.sw_rows.specs.Header.{Column, header_of, holding}
use Rattle.sw_rows.specs.Tables.{◌>>=◌, seeing, table_in, table_of_records, table_with}
use Rattle.sw_rows.proofs.Loads.CutLaws.{plain_behind}
use Rattle.sw_rows.proofs.Tables.TableLemmas.{numbers_fail, numbers_read}
use Rattle.sw_rows.proofs.loading.parts.read_parts.Goals as goal

-- a header and the records of the rest
table_is : (bytes text head body : List ℕ) (at : ℕ) (h : List (List ℕ)) (cs : List Column) → text ≡ strip_bom bytes → records default_config text ≡ records default_config (take at text) ++ records default_config (drop at text) → head ≡ take at text → body ≡ drop at text → records default_config head ≡ h ∷ [] → header_of h ≡ Ok cs
    → table_in bytes ≡ table_with (seeing cs (records default_config body)) (records default_config body)
table_is bytes text head body at h cs plain both front back one is =
    ap (λ t. table_of_records (records default_config t)) (sym plain)
    ∙ ap table_of_records (both ∙ ap (λ t. records default_config t ++ records default_config (drop at text)) (sym front) ∙ ap (λ t. records default_config head ++ records default_config t) (sym back) ∙ ap (λ rs. rs ++ records default_config body) one)
    ∙ ap (λ o. o >>= λ columns. table_with (seeing columns (records default_config body)) (records default_config body)) is

pub returns-in-Ok-clause-gives : goal.returns-in-Ok-clause-gives
returns-in-Ok-clause-gives g c =
    let body = c.split_at.result.1.now in
    let head = c.in-Some-read_head.ensures.head in
    let cs = c.in-Some-read_head.columns in
    let numbers = sym c.has_texts.ensures ∙ c.if-has_texts.false in
    table_is c.args.bytes.now c.unmarked-text.result.now c.split_at.result.0.now body c.in-Some.at head.0 cs c.unmarked-text.ensures.rest c.in-Some.ensures.records c.split_at.ensures.front c.split_at.ensures.back head.1 head.2
    ∙ numbers_read cs (records default_config body) c.in-Ok.rows.items numbers c.in-Ok.ensures.rows
    ∙ ap (λ ds. Ok (record { columns = ds; rows = c.in-Ok.rows.items })) (sym (c.into_schema.ensures.schema ∙ ap (λ ts. holding ts cs) c.no_texts-texts.ensures))

pub returns-in-Err-clause-gives : goal.returns-in-Err-clause-gives
returns-in-Err-clause-gives g c =
    let body = c.split_at.result.1.now in
    let head = c.in-Some-read_head.ensures.head in
    let cs = c.in-Some-read_head.columns in
    let numbers = sym c.has_texts.ensures ∙ c.if-has_texts.false in
    rw (table_is c.args.bytes.now c.unmarked-text.result.now c.split_at.result.0.now body c.in-Some.at head.0 cs c.unmarked-text.ensures.rest c.in-Some.ensures.records c.split_at.ensures.front c.split_at.ensures.back head.1 head.2)
    (numbers_fail cs (records default_config body) c.in-Err.refusal numbers c.in-Err.ensures.rows)

pub read_text_table-requires-clause-known : goal.read_text_table-requires-clause-known
read_text_table-requires-clause-known g c κs within = rw (sym c.split_at.ensures.back) at
    (plain_behind c.args.is_quoteless c.unmarked-text.result.now c.in-Some.at (c.unmarked-text.ensures.quoteless c.args.is_quoteless c.requires.known))

pub read_halves-requires-clause-known : goal.read_halves-requires-clause-known
read_halves-requires-clause-known g c κs within = rw (sym c.split_at.ensures.back) at
    (plain_behind c.args.is_quoteless c.unmarked-text.result.now c.in-Some.at (c.unmarked-text.ensures.quoteless c.args.is_quoteless c.requires.known))
