use Rattle.std.proofs.Common.{◌≡◌, ◌+◌, ◌≤◌, drop, fold, length, vec_capacity, vec_len}
use Rattle.sw_chunks.specs.Places.{owners_then}
use Rattle.sw_chunks.proofs.places.add_each.Given as goal

abbrev pub invariant-loop-update : goal.invariant-loop-update
invariant-loop-update l = (fold (owners_then l.by.attribute l.by.cuts.now) l.owners.items (drop l.update-index l.updates) ≡ fold (owners_then l.by.attribute l.by.cuts.now) l.initial.owners.items l.updates) × (vec_len l.owners + length (drop l.update-index l.updates) ≤ vec_capacity l.owners)
