use Rattle.std.proofs.Common.{◌∙◌, [], ap, sym, Some, None}
use Rattle.std.specs.Prelude.{option_and_then, option_map}
use Rattle.json.specs.Lex.{tokens}
use Rattle.sw_histories.specs.Outlines.{AreRows, front_as, values_at}
use Rattle.sw_histories.specs.RecordReading.{frame, rows_up_to}
use Rattle.sw_histories.proofs.Found.EntriesLemmas.{outer_from, outer_read, rows_said, rows_stood, some_at}
use Rattle.sw_histories.proofs.reading.read_outside.Goals as goal

pub returns-in_default-2 : goal.returns-in_default-2
returns-in_default-2 c =
    let h = c.requires in
    let i = c.in-Some.at in
    let at = rows_stood c.args.text.now c.args.outline i h c.in-Some.is in
    let all = outer_read c.args.text.now c.args.outline i c.in_ok-front.field-0 h at c.in_ok-front.ensures.told in
    sym (all ∙ ap (λ f. option_and_then (outer_from at.values) (option_map front_as f)) c.in_default-2.is)

pub returns-in-Ok-Some : goal.returns-in-Ok-Some
returns-in-Ok-Some c =
    let h = c.requires in
    let i = c.in-Some.at in
    let at = rows_stood c.args.text.now c.args.outline i h c.in-Some.is in
    let all = outer_read c.args.text.now c.args.outline i c.in_ok-front.field-0 h at c.in_ok-front.ensures.told in
    let schema = c.in-Some-2.front.schema in
    let format = c.in-Some-2.front.format in
    let limit = c.in-Some-2.front.limit in
    let now = c.read_rows_up_to.new.schema in
    let rows = some_at (values_at i.place (tokens c.args.text.now)) at.values (λ ds. AreRows (rows_up_to schema limit ds) now c.in-Ok-Some.field-0) at.stands c.in-Ok-Some.ensures in
    let said = rows_said (rows_up_to schema limit at.values) now c.in-Ok-Some.field-0 (Some c.in-Ok-Some.rows) rows c.in-Ok-Some.field-0-is in
    ap (option_map (λ r. frame r.0 format limit r.1 [])) said
    ∙ sym (all ∙ ap (λ f. option_and_then (outer_from at.values) (option_map front_as f)) c.in-Some-2.is)

pub returns-in-Ok-None : goal.returns-in-Ok-None
returns-in-Ok-None c =
    let h = c.requires in
    let i = c.in-Some.at in
    let at = rows_stood c.args.text.now c.args.outline i h c.in-Some.is in
    let all = outer_read c.args.text.now c.args.outline i c.in_ok-front.field-0 h at c.in_ok-front.ensures.told in
    let schema = c.in-Some-2.front.schema in
    let format = c.in-Some-2.front.format in
    let limit = c.in-Some-2.front.limit in
    let now = c.read_rows_up_to.new.schema in
    let rows = some_at (values_at i.place (tokens c.args.text.now)) at.values (λ ds. AreRows (rows_up_to schema limit ds) now c.in-Ok-None.field-0) at.stands c.in-Ok-None.ensures in
    let said = rows_said (rows_up_to schema limit at.values) now c.in-Ok-None.field-0 None rows c.in-Ok-None.field-0-is in
    ap (option_map (λ r. frame r.0 format limit r.1 [])) said
    ∙ sym (all ∙ ap (λ f. option_and_then (outer_from at.values) (option_map front_as f)) c.in-Some-2.is)
