use Rattle.std.proofs.Common.{◌≡◌, length}
use Rattle.std.specs.List.{slice_split}
use Rattle.sw_lang.specs.CutsReading.{cuts_after, cuts_at, is_divider}
use Rattle.sw_lang.proofs.reading.cuts.cuts_at.Given as goal

abbrev pub invariant-loop-cuts : goal.invariant-loop-cuts
invariant-loop-cuts l = record {
  lists : length l.cuts ≡ length l.schema;
  left : cuts_after l.schema l.cuts (slice_split is_divider l.rest) ≡ cuts_at l.schema l.text;
}

abbrev pub decreases-loop-cuts : goal.decreases-loop-cuts
decreases-loop-cuts l = length l.rest
