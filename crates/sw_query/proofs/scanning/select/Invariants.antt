use Rattle.std.proofs.Common.{◌≡◌, map}
use Rattle.sw_query.specs.Scan.{projected}
use Rattle.sw_query.proofs.ScanLemmas.{found_in}
use Rattle.sw_query.proofs.scanning.select.Given as goal

abbrev pub invariant-loop-place : goal.invariant-loop-place
invariant-loop-place g l = l.found ≡ map (projected l.names) (found_in l.sieve (g.P.Places.flags l.rows) (g.P.Places.rows l.rows) l.place)
