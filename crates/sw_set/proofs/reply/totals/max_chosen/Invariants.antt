use Rattle.std.proofs.Common.{◌≡◌, take}
use Rattle.sw_query.specs.Scan.{greatest}
use Rattle.sw_set.specs.Choice.{chosen}
use Rattle.sw_set.proofs.reply.totals.max_chosen.Given as goal

abbrev pub invariant-loop-place : goal.invariant-loop-place
invariant-loop-place g l = (l.found ≡ greatest (chosen l.choice.bits (take l.place l.fn.window))) × (l.window ≡ l.fn.window)
