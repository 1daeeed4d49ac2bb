use Rattle.std.proofs.Common.{◌≡◌, map}
use Rattle.sw_table.specs.Live.{key_of}
use Rattle.sw_query.proofs.ScanLemmas.{found_in}
use Rattle.sw_query.proofs.scanning.keys.Given as goal

abbrev pub invariant-loop-place : goal.invariant-loop-place
invariant-loop-place g l = l.found.items ≡ map key_of (found_in l.sieve (g.P.Places.flags l.rows) (g.P.Places.rows l.rows) l.place)
