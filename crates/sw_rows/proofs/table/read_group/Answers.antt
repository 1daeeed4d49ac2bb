use Rattle.std.proofs.Common.{◌≡◌, ◌∙◌, ◌<◌, ◌+◌, ◌++◌, ◌∷◌, ap, sym, subst, arith, drop, get_or, length, length-append, Ok, []}
use Rattle.std.proofs.Math.ListN.{drop_of_length-le}
use Rattle.std.proofs.lemmas.List.{drop_more}
use Rattle.sw_rows.specs.Groups.{AreAllSeen}
use Rattle.sw_rows.specs.Domains.{under}
use Rattle.sw_rows.specs.Gives.{Fails}
use Rattle.sw_rows.specs.Header.{kinds_of}
use Rattle.sw_rows.specs.Tables.{cells_of, rows_after, text_fields, texts_in, then_padded}
use Rattle.sw_rows.specs.Texts.{with_texts}
use Rattle.sw_rows.specs.declared.table.TheConstants.{MOST_ROWS}
use Rattle.sw_table.specs.Packed.{Packed}
use Rattle.sw_rows.proofs.Tables.SeenLemmas.{all_kept}
use Rattle.sw_rows.proofs.Tables.TableLemmas.{cells_over, on_ok, rows_fault, rows_step, seen_next}
use Rattle.sw_rows.proofs.Schemas.TextLaws.{with_more}
use Rattle.sw_rows.proofs.table.read_group.Goals as goal

pub returns-in-Err-clause-gives : goal.returns-in-Err-clause-gives
returns-in-Err-clause-gives c = λ more.
    let ds = kinds_of c.args.columns.now in
    let group = c.args.group.now in
    let rows = c.loop-place.rows.items in
    let r = get_or group c.loop-place.place [] in
    let rest = drop (c.loop-place.place + 1) group in
    let all = with_texts c.args.texts.now (texts_in ds group ++ more) in
    let e = c.in-Err.e in
    let inside : c.loop-place.place < length group = omega (arith, c.loop-place-test.true, c.len-place-end.ensures.value) in
    let one : drop c.loop-place.place group ≡ r ∷ rest = drop_more group c.loop-place.place [] inside in
    let here = seen_next c.args.texts.now c.loop-place.texts ds r rest group more (ap (λ rs. with_texts c.loop-place.texts (texts_in ds rs)) (sym one) ∙ c.loop-place.invariant.texts) in
    let lt : length rows < MOST_ROWS = omega (arith, c.loop-place.invariant.count, c.requires.few, inside) in
    let given = subst (λ fs. Fails ⊥ e (then_padded (cells_of (c.len.result + 1) (under (with_texts c.loop-place.texts (text_fields ds fs ++ (texts_in ds rest ++ more))) ds) fs))) c.record.ensures (c.in-Err.ensures.gives (texts_in ds rest ++ more)) in
    let fault = cells_over ds (c.len.result + 1) r _ all (Fails ⊥ e) here given in
    rw (sym (c.loop-place.invariant.left more) ∙ ap (rows_after (under all ds) rows) one)
    (rows_fault (under all ds) rows r rest e lt (subst (λ m. Fails ⊥ e (then_padded (cells_of (m + 1) (under all ds) r))) c.len.ensures.many fault))

pub loop-place-preserved : goal.loop-place-preserved
loop-place-preserved c =
    let ds = kinds_of c.args.columns.now in
    let group = c.args.group.now in
    let rows = c.loop-place.rows.items in
    let r = get_or group c.loop-place.place [] in
    let rest = drop (c.loop-place.place + 1) group in
    let found = c.of-seen.result in
    let inside : c.loop-place.place < length group = omega (arith, c.loop-place-test.true, c.len-place-end.ensures.value) in
    let one : drop c.loop-place.place group ≡ r ∷ rest = drop_more group c.loop-place.place [] inside in
    let own = ap (λ rs. with_texts c.loop-place.texts (texts_in ds rs)) (sym one) ∙ c.loop-place.invariant.texts in
    let count = c.loop-place.invariant.count in
    let lt : length rows < MOST_ROWS = omega (arith, count, c.requires.few, inside) in
    let learned = c.in-Ok.ensures.learned ∙ ap (λ fs. with_texts c.loop-place.texts (text_fields ds fs)) c.record.ensures in
    let pushed = on_ok c.push.result _ (sym c.is_err.ensures.value ∙ c.if-is_err.false) c.push.ensures.ok in
    let items = ap (λ (p : Packed). p.items) pushed in
    let longer = ap length items ∙ length-append rows _ in
    record {
      codes = subst (λ us. AreAllSeen us group found) (sym learned) (all_kept c.loop-place.texts (text_fields ds r) group found c.loop-place.invariant.codes);
      count = omega (arith, longer, count);
      width = ap (λ (p : Packed). p.width) pushed ∙ c.loop-place.invariant.width;
      texts = ap (λ us. with_texts us (texts_in ds rest)) learned ∙ sym (with_more c.loop-place.texts (text_fields ds r) (texts_in ds rest)) ∙ own;
      left = λ more.
          let all = with_texts c.args.texts.now (texts_in ds group ++ more) in
          let here = seen_next c.args.texts.now c.loop-place.texts ds r rest group more own in
          let given = subst (λ fs. then_padded (cells_of (c.len.result + 1) (under (with_texts c.loop-place.texts (text_fields ds fs ++ (texts_in ds rest ++ more))) ds) fs) ≡ Ok c.in-Ok.cells) c.record.ensures (c.in-Ok.ensures.gives (texts_in ds rest ++ more)) in
          let read = cells_over ds (c.len.result + 1) r _ all (λ o. o ≡ Ok c.in-Ok.cells) here given in
          let read' = subst (λ m. then_padded (cells_of (m + 1) (under all ds) r) ≡ Ok c.in-Ok.cells) c.len.ensures.many read in
          ap (λ rs. rows_after (under all ds) rs rest) items ∙ sym (rows_step (under all ds) rows r rest c.in-Ok.cells lt read') ∙ ap (rows_after (under all ds) rows) (sym one) ∙ c.loop-place.invariant.left more;
    }

pub returns-clause-gives : goal.returns-clause-gives
returns-clause-gives c = λ more.
    let group = c.args.group.now in
    sym (c.loop-place.invariant.left more) ∙ ap (rows_after _ c.loop-place.rows.items) (drop_of_length-le group (omega (arith, c.loop-place-test.false, c.len-place-end.ensures.value)))
