use Rattle.std.proofs.Common.{◌≡◌, ◌++◌, ◌*◌, ◌≤◌, ◌-◌, length, take, drop}
use Rattle.sw_table.specs.Kept.{kept_parts}
use Rattle.sw_table.proofs.keeping.keep_parts.Given as goal

-- the parts that are kept stand first, and the rest is as it was
abbrev pub invariant-loop-place : goal.invariant-loop-place
invariant-loop-place g l =
    (l.many ≤ l.place) × (l.place ≤ length l.live) × (length l.items.items ≡ length l.live * l.width)
    × (take (l.many * l.width) l.items.items ++ kept_parts l.width (drop l.place l.live) (drop (l.place * l.width) l.items.items) ≡ kept_parts l.width l.live l.initial.items.items)

abbrev pub decreases-loop-place : goal.decreases-loop-place
decreases-loop-place g l = length l.live - l.place
