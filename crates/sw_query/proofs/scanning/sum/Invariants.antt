use Rattle.std.proofs.Common.{◌≡◌, ◌*◌, ◌^◌, pos, neg_ℤ, ◌≤ℤ◌}
use Rattle.sw_query.specs.Scan.{column, total}
use Rattle.sw_query.proofs.ScanLemmas.{found_in}
use Rattle.sw_query.proofs.scanning.sum.Given as goal

abbrev pub invariant-loop-place : goal.invariant-loop-place
invariant-loop-place g l = (l.sum ≡ total (column l.attr (found_in l.sieve (g.P.Places.flags l.rows) (g.P.Places.rows l.rows) l.place))) × (neg_ℤ (pos (2 ^ 63 * l.place)) ≤ℤ l.sum) × (l.sum ≤ℤ pos (2 ^ 63 * l.place))
