use Rattle.std.proofs.Common.{◌≡◌, take}
use Rattle.sw_chunks.specs.Places.{owners_of}
use Rattle.sw_chunks.proofs.dealing.owners_of.Given as goal

abbrev pub invariant-loop-at : goal.invariant-loop-at
invariant-loop-at l = l.owners.items ≡ owners_of l.by.attribute l.by.cuts.now (take l.at l.rows.items)
