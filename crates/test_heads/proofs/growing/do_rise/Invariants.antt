use Rattle.std.proofs.Common.{drop, None}
use Rattle.sw_chunks.specs.Cuts.{RiseAbove}
use Rattle.test_heads.proofs.growing.do_rise.Given as goal

-- if the rest rises above the last one, all do
abbrev pub invariant-loop-cut : goal.invariant-loop-cut
invariant-loop-cut l = RiseAbove l.last (drop l.cut-index l.cuts) → RiseAbove None l.cuts
