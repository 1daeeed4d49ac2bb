use Rattle.std.proofs.Common.{◌≡◌, ◌+◌, ◌-◌, ◌<◌, ◌∷◌, [], ◌++◌, ◌∙◌, ap, sym, length, arith, None, length-append}
use Rattle.std.proofs.lemmas.Option.{IfSome_then}
use Rattle.json.specs.Json.{after_end_array, value}
use Rattle.serde_json.specs.View.{view}
use Rattle.sw_histories.specs.Outlines.{values_in}
use Rattle.sw_rows.specs.Tables.{row_of}
use Rattle.sw_histories.specs.RecordReading.{rows_after}
use Rattle.sw_histories.proofs.Found.RecordReadingLemmas.{row_none, rows_step}
use Rattle.sw_histories.proofs.Found.EntriesLemmas.{value_more, value_there, values_over}
use Rattle.sw_histories.proofs.reading.rows.read_rows.Goals as goal

pub unreachable-requires : goal.unreachable-requires
unreachable-requires c =
    let l = c.rows in
    let going : (after_end_array l.reader ≡ None) × (c.take_end_array.new.self ≡ l.reader) = grind arith in
    value_there (value 125) l.invariant.0 l.reader l.invariant.1 going.0 (rw (← going.1) (c.read.ensures.err (grind arith))) l.invariant.3

pub returns-in_default : goal.returns-in_default
returns-in_default c =
    let l = c.rows in
    let columns = l.schema in
    let rs = l.rows.items in
    let d = view c.in-Ok.value in
    let going : (after_end_array l.reader ≡ None) × (c.take_end_array.new.self ≡ l.reader) = grind arith in
    let done = c.in-Ok.ensures in
    let r = c.read.new.reader in
    let less : length r < length l.reader = rw (← going.1) done.shorter in
    let more = value_more (value 125) l.invariant.0 l.reader r d l.invariant.1 (omega (arith, l.invariant.2, less)) going.0 (rw (← going.1) done.ok) l.invariant.3 in
    IfSome_then (values_in c.args.reader.now) l.invariant.5 (λ ds h. row_none columns rs d more.0 (rows_after c.args.schema.now [] ds) (h ∙ ap (rows_after columns rs) more.1) (sym c.in_default.is ∙ c.in_ok-cells.ensures.cells))

pub rows-preserved : goal.rows-preserved
rows-preserved c =
    let l = c.rows in
    let columns = l.schema in
    let rs = l.rows.items in
    let d = view c.in-Ok.value in
    let going : (after_end_array l.reader ≡ None) × (c.take_end_array.new.self ≡ l.reader) = grind arith in
    let done = c.in-Ok.ensures in
    let r = c.read.new.reader in
    let less : length r < length l.reader = rw (← going.1) done.shorter in
    let more = value_more (value 125) l.invariant.0 l.reader r d l.invariant.1 (omega (arith, l.invariant.2, less)) going.0 (rw (← going.1) done.ok) l.invariant.3 in
    let cells = c.in-Some.cells in
    let n = c.len-in-rows.result + 1 in
    let place : n ≡ length rs + 1 = ap (λ n. n + 1) c.len-in-rows.ensures.many in
    let grown : c.add.new.self.items ≡ rs ++ row_of n cells ∷ [] = c.in_ok-add.ensures.ok in (
      l.invariant.0 - 1,
      more.0,
      omega (arith, l.invariant.2, less),
      more.2,
      omega (arith, l.invariant.4, ap length grown ∙ length-append rs (row_of n cells ∷ []), ap length more.1),
      IfSome_then (values_in c.args.reader.now) l.invariant.5 (λ ds h. rows_step columns c.take_row.new.schema rs c.add.new.self.items d more.0 cells n (rows_after c.args.schema.now [] ds) (h ∙ ap (rows_after columns rs) more.1) place (sym c.in-Some.is ∙ c.in_ok-cells.ensures.cells) c.in_ok-cells.ensures.learned grown),
    )

pub returns : goal.returns
returns c =
    let l = c.rows in
    let over = values_over (value 125) l.invariant.0 l.reader c.take_end_array.new.self l.invariant.1 l.invariant.2 (grind arith) l.invariant.3 in
    IfSome_then (values_in c.args.reader.now) l.invariant.5 (λ ds h. sym (h ∙ ap (rows_after l.schema l.rows.items) over))
