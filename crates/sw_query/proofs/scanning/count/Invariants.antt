use Rattle.std.proofs.Common.{◌≡◌, ◌≤◌, length}
use Rattle.sw_query.proofs.ScanLemmas.{found_in}
use Rattle.sw_query.proofs.scanning.count.Given as goal

abbrev pub invariant-loop-place : goal.invariant-loop-place
invariant-loop-place g l = (l.found ≡ length (found_in l.sieve (g.P.Places.flags l.rows) (g.P.Places.rows l.rows) l.place)) × (l.found ≤ l.place)
