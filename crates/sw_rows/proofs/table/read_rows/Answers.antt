use Rattle.std.proofs.Common.{◌≡◌, ◌∙◌, ◌++◌, ap, sym, arith, cond, Ok, []}
use Rattle.csv.specs.Records.{fields_of}
use Rattle.sw_rows.specs.Groups.{group_and}
use Rattle.sw_rows.specs.Domains.{under}
use Rattle.sw_rows.specs.Gives.{Fails}
use Rattle.sw_rows.specs.Header.{kinds_of}
use Rattle.sw_rows.specs.Records.{left_in, records_left}
use Rattle.sw_rows.specs.Tables.{rows_after, texts_in}
use Rattle.sw_rows.specs.Texts.{with_texts}
use Rattle.sw_table.specs.Packed.{Packed}
use Rattle.sw_rows.proofs.Tables.GroupLemmas.{group_fails, group_over, group_read, texts_behind}
use Rattle.sw_rows.proofs.Tables.TableLemmas.{left_none, left_one, rows_full}
use Rattle.sw_rows.proofs.table.read_rows.Goals as goal

pub returns-in-Ok-2-clause-gives : goal.returns-in-Ok-2-clause-gives
returns-in-Ok-2-clause-gives c = λ more.
    let ds = kinds_of c.args.columns.now in
    let group = c.fill.new.self in
    let all = records_left c.args.records.now.rdr in
    let ks = under (with_texts c.args.texts.now (texts_in ds all ++ more)) ds in
    let rows = c.loop-turn.rows.items in
    let left = c.in-Ok.ensures.all ∙ ap (λ b. group_and b group (left_in c.fill.new.records)) c.if-is_more.false in
    let own = ap (λ rs. with_texts c.loop-turn.texts (texts_in ds rs)) (sym left) ∙ c.loop-turn.invariant.texts in
    let read = group_over ds group [] c.loop-turn.texts c.args.texts.now all more rows (λ o. o ≡ Ok c.read_group.new.rows.items) own (c.in-Ok-2.ensures.gives more) in
    sym (c.loop-turn.invariant.left more) ∙ ap (rows_after ks rows) left ∙ group_read ks group [] rows c.read_group.new.rows.items read ∙ ap (λ (p : Packed). Ok p.items) (sym c.into_packed.ensures)

pub returns-in-Err-clause-gives : goal.returns-in-Err-clause-gives
returns-in-Err-clause-gives c = λ more.
    let ds = kinds_of c.args.columns.now in
    let group = c.fill.new.self in
    let rest = cond c.in-Ok.is_more (left_in c.fill.new.records) [] in
    let all = records_left c.args.records.now.rdr in
    let ks = under (with_texts c.args.texts.now (texts_in ds all ++ more)) ds in
    let rows = c.loop-turn.rows.items in
    let e = c.in-Err.e in
    let left = c.in-Ok.ensures.all in
    let own = ap (λ rs. with_texts c.loop-turn.texts (texts_in ds rs)) (sym left) ∙ c.loop-turn.invariant.texts in
    let fault = group_over ds group rest c.loop-turn.texts c.args.texts.now all more rows (Fails ⊥ e) own (c.in-Err.ensures.gives (texts_in ds rest ++ more)) in
    rw (sym (c.loop-turn.invariant.left more) ∙ ap (rows_after ks rows) left) (group_fails ks group rest rows e fault)

pub loop-turn-preserved : goal.loop-turn-preserved
loop-turn-preserved c =
    let ds = kinds_of c.args.columns.now in
    let group = c.fill.new.self in
    let rest = left_in c.fill.new.records in
    let all = records_left c.args.records.now.rdr in
    let rows = c.loop-turn.rows.items in
    let left = c.in-Ok.ensures.all ∙ ap (λ b. group_and b group rest) c.if-is_more.true in
    let own = ap (λ rs. with_texts c.loop-turn.texts (texts_in ds rs)) (sym left) ∙ c.loop-turn.invariant.texts in
    record {
      plain = c.in-Ok.ensures.plain;
      count = omega (arith, c.in-Ok-read_group.ensures.count, c.in-Ok.ensures.full c.if-is_more.true, c.loop-turn.invariant.count);
      width = c.in-Ok-read_group.ensures.width ∙ c.loop-turn.invariant.width;
      texts = ap (λ us. with_texts us (texts_in ds rest)) c.in-Ok-read_group.ensures.learned ∙ texts_behind ds group rest c.loop-turn.texts c.args.texts.now all own;
      left = λ more.
          let ks = under (with_texts c.args.texts.now (texts_in ds all ++ more)) ds in
          let read = group_over ds group rest c.loop-turn.texts c.args.texts.now all more rows (λ o. o ≡ Ok c.read_group.new.rows.items) own (c.in-Ok-read_group.ensures.gives (texts_in ds rest ++ more)) in
          sym (group_read ks group rest rows c.read_group.new.rows.items read) ∙ ap (rows_after ks rows) (sym left) ∙ c.loop-turn.invariant.left more;
    }

pub returns-in-Ok-true-clause-gives : goal.returns-in-Ok-true-clause-gives
returns-in-Ok-true-clause-gives c = λ more.
    let ds = kinds_of c.args.columns.now in
    let all = with_texts c.args.texts.now (texts_in ds (records_left c.args.records.now.rdr) ++ more) in
    let r = fields_of c.next.new.self.row in
    let rest = records_left c.next.new.self.rdr in
    let one = left_one c.in-Ok-true.field-0 (records_left c.loop-turn.records.rdr) r rest c.in-Ok-true.field-0-test c.in-Ok-true.ensures.row in
    sym (c.loop-turn.invariant.left more) ∙ ap (rows_after (under all ds) c.loop-turn.rows.items) one ∙ rows_full (under all ds) c.loop-turn.rows.items r rest (omega (arith, c.loop-turn.invariant.count, c.loop-turn-test.false))

pub returns-in-Ok-false-clause-gives : goal.returns-in-Ok-false-clause-gives
returns-in-Ok-false-clause-gives c = λ more.
    sym (c.loop-turn.invariant.left more) ∙ ap (rows_after _ c.loop-turn.rows.items) (left_none c.in-Ok-false.field-0 (records_left c.loop-turn.records.rdr) (fields_of c.next.new.self.row) (records_left c.next.new.self.rdr) c.in-Ok-false.field-0-test c.in-Ok-false.ensures.row) ∙ ap (λ (p : Packed). Ok p.items) (sym c.into_packed-in-Ok-false.ensures)
