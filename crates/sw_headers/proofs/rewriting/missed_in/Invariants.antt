use Rattle.std.proofs.Common.{◌≡◌, length}
use Rattle.sw_headers.specs.Steps.{missed_in}
use Rattle.sw_headers.proofs.rewriting.missed_in.Given as goal

abbrev pub invariant-loop-byte : goal.invariant-loop-byte
invariant-loop-byte l = missed_in l.missed l.rest ≡ missed_in l.fn.missed l.run

abbrev pub decreases-loop-byte : goal.decreases-loop-byte
decreases-loop-byte l = length l.rest
