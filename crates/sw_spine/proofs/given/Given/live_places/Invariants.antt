use Rattle.std.proofs.Common.{◌≡◌, take}
use Rattle.sw_table.specs.Kept.{kept}
use Rattle.sw_spine.specs.Listed.{flags_at}
use Rattle.sw_spine.proofs.given.Given.live_places.Given as goal

abbrev pub invariant-loop-number : goal.invariant-loop-number
invariant-loop-number l = l.found.items ≡ kept (flags_at l.self.places l.self.live) (take l.number l.self.places)
