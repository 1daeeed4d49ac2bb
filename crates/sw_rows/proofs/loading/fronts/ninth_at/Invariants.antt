use Rattle.std.proofs.Common.{◌≤◌}
use Rattle.sw_rows.proofs.loading.fronts.ninth_at.Given as goal

abbrev pub invariant-loop-at : goal.invariant-loop-at
invariant-loop-at l = l.commas ≤ 7
