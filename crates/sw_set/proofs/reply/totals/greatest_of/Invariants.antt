use Rattle.std.proofs.Common.{◌≡◌, fold, get_or, pos, take}
use Rattle.std.specs.Int.{int_max}
use Rattle.sw_set.proofs.reply.totals.greatest_of.Given as goal

abbrev pub invariant-loop-value : goal.invariant-loop-value
invariant-loop-value l = l.found ≡ fold int_max (get_or l.values 0 (pos 0)) (take l.value-index l.values)
