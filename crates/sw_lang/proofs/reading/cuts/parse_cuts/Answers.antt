use Rattle.std.proofs.Common.{◌≡◌, ◌∙◌, sym, ap, Result, Ok, Err}
use Rattle.sw_lang.specs.Cuts.{CutLists}
use Rattle.sw_lang.specs.CutsReading.{cuts_at}
use Rattle.sw_lang.specs.declared.fault.Fault.{Fault}
use Rattle.sw_lang.proofs.Cutting.Texts.{cuts_fit, cuts_found, cuts_read}
use Rattle.sw_lang.proofs.Parsing.Relates.{same_ok}
use Rattle.sw_lang.proofs.reading.cuts.parse_cuts.Goals as goal

pub returns-in-Ok-clause-grammar : goal.returns-in-Ok-clause-grammar
returns-in-Ok-clause-grammar c = cuts_found c.args.schema.now c.args.text.now c.in-Ok.cuts (rw c.as_bytes.ensures.value at c.in-Ok.ensures)

pub returns-in-Ok-clause-only : goal.returns-in-Ok-clause-only
returns-in-Ok-clause-only c = λ ok cuts is.
    let one : cuts_at c.args.schema.now c.args.text.now ≡ Ok cuts = cuts_read c.args.schema.now c.args.text.now cuts ok is in
    let read : cuts_at c.args.schema.now c.args.text.now ≡ Ok c.in-Ok.cuts = rw c.as_bytes.ensures.value at c.in-Ok.ensures in
    ap (λ (w : CutLists). Ok w) (same_ok cuts c.in-Ok.cuts (sym one ∙ read))

pub returns-in-Ok-clause-fits : goal.returns-in-Ok-clause-fits
returns-in-Ok-clause-fits c =
    cuts_fit c.args.schema.now c.args.text.now c.in-Ok.cuts (cuts_found c.args.schema.now c.args.text.now c.in-Ok.cuts (rw c.as_bytes.ensures.value at c.in-Ok.ensures))

-- a text that the relation relates to cuts has no fault
no_fault : (cuts : CutLists) (f : Fault) (r : Result CutLists Fault) → r ≡ Ok cuts → r ≡ Err f → ⊥
no_fault cuts f r h e = absurd cc

pub returns-in-Err-Fault-Bad-clause-only : goal.returns-in-Err-Fault-Bad-clause-only
returns-in-Err-Fault-Bad-clause-only c = λ ok cuts is.
    let one = cuts_read c.args.schema.now c.args.text.now cuts ok is in
    let failed = rw (c.in-Err-Fault-Bad.field-0-is, c.as_bytes.ensures.value) at c.in-Err-Fault-Bad.ensures in
    absurd (no_fault cuts _ (cuts_at c.args.schema.now c.args.text.now) one failed)

pub returns-in-Err-Fault-Unknown-clause-only : goal.returns-in-Err-Fault-Unknown-clause-only
returns-in-Err-Fault-Unknown-clause-only c = λ ok cuts is.
    let one = cuts_read c.args.schema.now c.args.text.now cuts ok is in
    let failed = rw (c.in-Err-Fault-Unknown.field-0-is, c.as_bytes.ensures.value) at c.in-Err-Fault-Unknown.ensures in
    absurd (no_fault cuts _ (cuts_at c.args.schema.now c.args.text.now) one failed)

pub returns-in-Err-Fault-Excess-clause-only : goal.returns-in-Err-Fault-Excess-clause-only
returns-in-Err-Fault-Excess-clause-only c = λ ok cuts is.
    let one = cuts_read c.args.schema.now c.args.text.now cuts ok is in
    let failed = rw (c.in-Err-Fault-Excess.field-0-is, c.as_bytes.ensures.value) at c.in-Err-Fault-Excess.ensures in
    absurd (no_fault cuts _ (cuts_at c.args.schema.now c.args.text.now) one failed)
