use Rattle.std.proofs.Common.{ap, of_z, w64}
use Rattle.sw_lang.proofs.Printed.Calls.{equal_first, equal_two}
use Rattle.sw_lang.proofs.Progress.{both, stops}
use Rattle.sw_lang.proofs.printing.calls.write_equal.Goals as goal

pub returns-in_err-write_term : goal.returns-in_err-write_term
returns-in_err-write_term g c = rw (equal_first c.args.schema.now c.args.started c.args.attr c.args.texts.0.now c.args.texts.1.now) (stops _ _ c.from_residual.result c.from_residual.ensures.1 c.in_err-write_term.ensures)

pub returns : goal.returns
returns g c = rw (equal_two c.args.schema.now c.args.started c.args.attr c.args.texts.0.now c.args.texts.1.now (λ e. c.if-lower-upper.false (ap (of_z w64) e))) (both _ _ c.write_term-2.result c.in_ok-write_term.ensures c.write_term-2.ensures)
