use Rattle.sw_arrays.proofs.Fits.{asked_query_fits}
use Rattle.sw_arrays.proofs.asked.query_of.Goals as goal

pub returns-clause-fits : goal.returns-clause-fits
returns-clause-fits c =
    asked_query_fits c.args.schema.now c.args.wanted c.args.ranges.now c.in-Ok.want c.in-Ok-conds_of.conds c.in-Ok.ensures c.in-Ok-conds_of.ensures
