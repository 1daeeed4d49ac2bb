use Rattle.std.proofs.Common.{◌≤◌, ◌<◌, ◌+◌, ◌-◌, ℕ, get_or, length}
use Rattle.sw_load.proofs.gone.count_before.Given as goal

abbrev pub invariant-loop-low : goal.invariant-loop-low
invariant-loop-low l = record {
  order : l.low ≤ l.high;
  within : l.high ≤ length l.gone;
  before : (j : ℕ) → j < l.low → get_or l.gone j 0 ≤ l.place + j;
  after : l.high < length l.gone → l.place + l.high < get_or l.gone l.high 0;
}

abbrev pub decreases-loop-low : goal.decreases-loop-low
decreases-loop-low l = l.high - l.low
