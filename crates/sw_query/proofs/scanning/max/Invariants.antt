use Rattle.std.proofs.Common.{◌≡◌}
use Rattle.sw_query.specs.Scan.{column, greatest}
use Rattle.sw_query.proofs.ScanLemmas.{found_in}
use Rattle.sw_query.proofs.scanning.max.Given as goal

abbrev pub invariant-loop-place : goal.invariant-loop-place
invariant-loop-place g l = l.found ≡ greatest (column l.attr (found_in l.sieve (g.P.Places.flags l.rows) (g.P.Places.rows l.rows) l.place))
