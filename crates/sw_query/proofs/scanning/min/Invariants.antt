use Rattle.std.proofs.Common.{◌≡◌}
use Rattle.sw_query.specs.Scan.{column, least}
use Rattle.sw_query.proofs.ScanLemmas.{found_in}
use Rattle.sw_query.proofs.scanning.min.Given as goal

abbrev pub invariant-loop-place : goal.invariant-loop-place
invariant-loop-place g l = l.found ≡ least (column l.attr (found_in l.sieve (g.P.Places.flags l.rows) (g.P.Places.rows l.rows) l.place))
