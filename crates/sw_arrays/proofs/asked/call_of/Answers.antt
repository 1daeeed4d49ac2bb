use Rattle.std.proofs.Common.{ap, sym, Ok}
use Rattle.sw_query.specs.declared.query.Call.TheVariants as call
use Rattle.sw_arrays.specs.Asked.{◌>>=◌}
use Rattle.sw_arrays.specs.declared.asked.Asked.TheVariants as asked
use Rattle.sw_arrays.proofs.Fits.{asked_fits}
use Rattle.sw_arrays.proofs.asked.call_of.Goals as goal

pub returns-in-Ok-clause-fits : goal.returns-in-Ok-clause-fits
returns-in-Ok-clause-fits c = c.in-Ok.ensures.fits

pub returns-in-Ok-row_of-clause-fits : goal.returns-in-Ok-row_of-clause-fits
returns-in-Ok-row_of-clause-fits c =
    asked_fits c.args.schema.now (asked.Insert c.in-Insert.cells) (call.Insert c.in-Ok-row_of.row) (ap (λ r. r >>= λ row. Ok (call.Insert row)) (sym c.in-Ok-row_of.ensures))

pub returns-in-Ok-deleted-clause-fits : goal.returns-in-Ok-deleted-clause-fits
returns-in-Ok-deleted-clause-fits c =
    asked_fits c.args.schema.now (asked.DeleteWhere c.in-DeleteWhere.ranges) (call.DeleteWhere c.in-Ok-deleted.conds) (ap (λ r. r >>= λ conds. Ok (call.DeleteWhere conds)) c.in-Ok-deleted.ensures)
