use Rattle.std.proofs.Common.{◌≡◌, ◌+◌, drop}
use Rattle.sw_chunks.specs.Cuts.{place_in}
use Rattle.sw_chunks.proofs.places.place_in.Given as goal

abbrev pub invariant-loop-cut : goal.invariant-loop-cut
invariant-loop-cut l = (l.place ≡ l.cut-index) × (l.place + place_in (drop l.cut-index l.cuts) l.cell ≡ place_in l.cuts l.cell)
