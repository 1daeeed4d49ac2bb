use Rattle.std.proofs.Common.{◌≤◌, ◌<◌, ◌-◌, ℕ, get_or, length}
use Rattle.sw_table.specs.declared.row.Row.{Row}
use Rattle.sw_load.proofs.load_rows.LoadRows.first_not_below.Given as goal

abbrev pub invariant-loop-low : goal.invariant-loop-low
invariant-loop-low l = record {
  order : l.low ≤ l.high;
  within : l.high ≤ length l.self.items;
  below : (i : ℕ) (d : Row) → i < l.low → (get_or l.self.items i d).key < l.key;
  above : (i : ℕ) (d : Row) → l.high ≤ i → i < length l.self.items → l.key ≤ (get_or l.self.items i d).key;
}

abbrev pub decreases-loop-low : goal.decreases-loop-low
decreases-loop-low l = l.high - l.low
