use Rattle.std.proofs.Common.{◌∙◌, sym, ap, decimal, w64}
use Rattle.std.specs.Fmt.{signed_decimal}
use Rattle.std.proofs.lemmas.Int.{to_z-of_z}
use Rattle.csv.specs.Records.{fields_of}
use Rattle.sw_import.specs.Made.{LeftOut, NoRow}
use Rattle.sw_import.proofs.RowLemmas.{grown, row_next, row_step}
use Rattle.sw_import.proofs.writing.make_record.Goals as goal
use Rattle.sw_import.proofs.writing.make_record.Goals.{in-Bytes+in_ok-push_field-in-Bytes, in-Number+in_ok-push_number-in-Number, in-Code+in_ok-push_number-in-Code}

pub returns-in-LeftOut : goal.returns-in-LeftOut
returns-in-LeftOut c =
    sym c.loop-place.invariant.2
    ∙ row_step c.args.maker.now.rules.now (fields_of c.loop-place.made) c.args.maker.now.plan.now c.loop-place.place c.index-plan-place.result (fields_of c.args.row.now) LeftOut c.loop-place-test.true c.index-plan-place.is (rw c.field-cell.ensures at c.in-LeftOut.ensures)
    ∙ ap (λ n. NoRow n) c.loop-place.invariant.1

pub loop-place-preserved : goal.loop-place-preserved
loop-place-preserved c = elim c.match-written.branch [
  | in-Bytes+in_ok-push_field-in-Bytes w ↦ rw w.made-is (
    w.in_ok-push_field-in-Bytes.ensures.partial,
    grown _ _ _ _ (rw c.loop-place.invariant.0 at w.in_ok-push_field-in-Bytes.ensures.fields) c.loop-place.invariant.1,
    row_next c.args.maker.now.rules.now (fields_of c.loop-place.made) _ c.args.maker.now.plan.now c.loop-place.place c.index-plan-place.result (fields_of c.args.row.now) w.in-Bytes.bytes.now _
        c.loop-place-test.true c.index-plan-place.is (rw c.field-cell.ensures at w.in-Bytes.ensures)
        (rw c.loop-place.invariant.0 at w.in_ok-push_field-in-Bytes.ensures.fields) c.loop-place.invariant.2,
  )
  | in-Number+in_ok-push_number-in-Number w ↦ rw w.made-is (
    w.in_ok-push_number-in-Number.ensures.partial,
    grown _ _ _ _ w.in_ok-push_number-in-Number.ensures.field c.loop-place.invariant.1,
    row_next c.args.maker.now.rules.now (fields_of c.loop-place.made) _ c.args.maker.now.plan.now c.loop-place.place c.index-plan-place.result (fields_of c.args.row.now) (signed_decimal w.in-Number.number) _
        c.loop-place-test.true c.index-plan-place.is (rw c.field-cell.ensures at w.in-Number.ensures)
        (rw (to_z-of_z w64 w.in-Number.number (record { sfits = (rw w.in-Number.is at c.make-written.type_inv).1.1.1.1.0.1 })) at w.in_ok-push_number-in-Number.ensures.field) c.loop-place.invariant.2,
  )
  | in-Code+in_ok-push_number-in-Code w ↦ rw w.made-is (
    w.in_ok-push_number-in-Code.ensures.partial,
    grown _ _ _ _ w.in_ok-push_number-in-Code.ensures.field c.loop-place.invariant.1,
    row_next c.args.maker.now.rules.now (fields_of c.loop-place.made) _ c.args.maker.now.plan.now c.loop-place.place c.index-plan-place.result (fields_of c.args.row.now) (decimal w.in-Code.number) _
        c.loop-place-test.true c.index-plan-place.is (rw c.field-cell.ensures at w.in-Code.ensures)
        w.in_ok-push_number-in-Code.ensures.field c.loop-place.invariant.2,
  )
]
