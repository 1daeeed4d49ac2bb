use Rattle.std.proofs.Common.{◌≡◌, ◌∙◌, sym, ap, Result, Ok, Err, Option}
use Rattle.sw_query.specs.declared.query.Call.{Call}
use Rattle.sw_lang.specs.declared.fault.Fault.{Fault}
use Rattle.sw_lang.specs.Reading.{line_at}
use Rattle.sw_lang.proofs.Parsing.Fits.{line_fits}
use Rattle.sw_lang.proofs.Parsing.Lines.{line_found, line_read}
use Rattle.sw_lang.proofs.Parsing.Relates.{same_ok}
use Rattle.sw_lang.proofs.reading.parse.parse_known.Goals as goal

pub returns-in-Ok-clause-grammar : goal.returns-in-Ok-clause-grammar
returns-in-Ok-clause-grammar c = line_found c.args.schema.now c.args.text.now c.in-Ok.call (rw c.as_bytes.ensures.value at c.in-Ok.ensures)

pub returns-in-Ok-clause-only : goal.returns-in-Ok-clause-only
returns-in-Ok-clause-only c = λ ok call is.
    let one : line_at c.args.schema.now c.args.text.now ≡ Ok call = line_read c.args.schema.now c.args.text.now call ok is in
    let read : line_at c.args.schema.now c.args.text.now ≡ Ok c.in-Ok.call = rw c.as_bytes.ensures.value at c.in-Ok.ensures in
    ap (λ (w : Option Call). Ok w) (same_ok call c.in-Ok.call (sym one ∙ read))

pub returns-in-Ok-clause-fits : goal.returns-in-Ok-clause-fits
returns-in-Ok-clause-fits c =
    let is = line_found c.args.schema.now c.args.text.now c.in-Ok.call (rw c.as_bytes.ensures.value at c.in-Ok.ensures) in
    line_fits c.args.schema.now c.args.text.now c.in-Ok.call is

-- a line that the grammar relates to a call has no fault
no_fault : (call : Option Call) (f : Fault) (r : Result (Option Call) Fault) → r ≡ Ok call → r ≡ Err f → ⊥
no_fault call f r h e = absurd cc

pub returns-in-Err-Fault-clause-only : goal.returns-in-Err-Fault-clause-only
returns-in-Err-Fault-clause-only c = λ ok call is.
    let one = line_read c.args.schema.now c.args.text.now call ok is in
    let failed = rw (c.in-Err-Fault.field-0-is, c.as_bytes.ensures.value) at c.in-Err-Fault.ensures in
    absurd (no_fault call _ (line_at c.args.schema.now c.args.text.now) one failed)
