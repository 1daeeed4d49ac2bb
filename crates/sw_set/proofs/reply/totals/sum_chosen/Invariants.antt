use Rattle.std.proofs.Common.{◌≡◌, ◌*◌, ◌^◌, take, pos, neg_ℤ, ◌≤ℤ◌}
use Rattle.sw_query.specs.Scan.{total}
use Rattle.sw_set.specs.Choice.{chosen}
use Rattle.sw_set.proofs.reply.totals.sum_chosen.Given as goal

abbrev pub invariant-loop-place : goal.invariant-loop-place
invariant-loop-place g l = (l.sum ≡ total (chosen l.choice.bits (take l.place l.fn.window))) × (neg_ℤ (pos (2 ^ 63 * l.place)) ≤ℤ l.sum) × (l.sum ≤ℤ pos (2 ^ 63 * l.place)) × (l.window ≡ l.fn.window)
