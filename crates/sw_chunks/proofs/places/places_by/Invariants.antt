use Rattle.std.proofs.Common.{◌≡◌, map, take}
use Rattle.sw_chunks.specs.Places.{place_by}
use Rattle.sw_chunks.proofs.places.places_by.Given as goal

abbrev pub invariant-loop-update : goal.invariant-loop-update
invariant-loop-update l = l.places.items ≡ map (place_by l.by.attribute l.by.cuts.now l.owners) (take l.update-index l.updates)
