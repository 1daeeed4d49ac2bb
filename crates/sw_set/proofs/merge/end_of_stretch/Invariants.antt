use Rattle.std.proofs.Common.{ℕ, ◌<◌, ◌≤◌, length, get_or}
use Rattle.sw_table.specs.declared.row.Update.{Update}
use Rattle.sw_set.specs.Merging.{IsRemoval}
use Rattle.sw_set.proofs.merge.end_of_stretch.Given as goal

abbrev pub invariant-loop-upto : goal.invariant-loop-upto
invariant-loop-upto l = (l.at < l.upto) × (l.upto ≤ length l.updates) × ((k : ℕ) (d : Update) → l.upto ≤ k → k < length l.updates → IsRemoval (get_or l.updates k d) → ⊥)

abbrev pub decreases-loop-upto : goal.decreases-loop-upto
decreases-loop-upto l = l.upto
