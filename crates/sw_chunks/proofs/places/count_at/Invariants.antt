use Rattle.std.proofs.Common.{◌≡◌, ◌+◌, ◌≤◌, drop}
use Rattle.sw_chunks.specs.Places.{count_at}
use Rattle.sw_chunks.proofs.places.count_at.Given as goal

abbrev pub invariant-loop-at : goal.invariant-loop-at
invariant-loop-at l = (l.many + count_at l.place (drop l.at-index l.places) ≡ count_at l.place l.places) × (l.many ≤ l.at-index)
