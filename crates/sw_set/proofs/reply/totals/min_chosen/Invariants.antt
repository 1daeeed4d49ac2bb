use Rattle.std.proofs.Common.{◌≡◌, take}
use Rattle.sw_query.specs.Scan.{least}
use Rattle.sw_set.specs.Choice.{chosen}
use Rattle.sw_set.proofs.reply.totals.min_chosen.Given as goal

abbrev pub invariant-loop-place : goal.invariant-loop-place
invariant-loop-place g l = (l.found ≡ least (chosen l.choice.bits (take l.place l.fn.window))) × (l.window ≡ l.fn.window)
