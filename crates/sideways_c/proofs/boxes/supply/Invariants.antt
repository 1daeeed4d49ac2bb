use Rattle.std.proofs.Common.{◌≡◌, ◌<◌, All, length}
use Rattle.sw_map.specs.Held.{blank}
use Rattle.sw_map.specs.States.{held_by}
use Rattle.sideways_c.proofs.boxes.supply.Given as goal

abbrev pub invariant-loop-it : goal.invariant-loop-it
invariant-loop-it l = All (λ m. held_by m.home ≡ blank) l.boxes.items × (l.head < l.columns) × (l.solo ≡ l.initial.solo)

abbrev pub decreases-loop-it : goal.decreases-loop-it
decreases-loop-it l = length l.boxes.items
