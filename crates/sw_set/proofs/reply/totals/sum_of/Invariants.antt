use Rattle.std.proofs.Common.{◌≡◌, take}
use Rattle.sw_query.specs.Scan.{total}
use Rattle.sw_set.specs.Choice.{IsSumOf}
use Rattle.sw_set.proofs.reply.totals.sum_of.Given as goal

abbrev pub invariant-loop-value : goal.invariant-loop-value
invariant-loop-value l = (l.sum ≡ total (take l.value-index l.values)) × IsSumOf l.value-index l.sum
