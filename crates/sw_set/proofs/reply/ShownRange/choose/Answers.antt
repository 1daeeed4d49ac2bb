use Rattle.std.proofs.Common.{ap, List, get_or}
use Rattle.sw_set.specs.Choice.{range_rows}
use Rattle.sw_query.specs.declared.query.Cond.{Cond}
use Rattle.sw_query.specs.Scan.{meets_all}
use Rattle.sw_set.proofs.Replying.Told.{none-further}
use Rattle.sw_set.proofs.reply.ShownRange.choose.Goals as goal

pub returns-then-conds-lt2-clause-chosen : goal.returns-then-conds-lt2-clause-chosen
returns-then-conds-lt2-clause-chosen g c = λ k d l. ap (λ (v : List Cond). meets_all v (get_or (range_rows c.args.self.now) k d)) (none-further c.args.conds.now c.if-conds-lt2.true)
