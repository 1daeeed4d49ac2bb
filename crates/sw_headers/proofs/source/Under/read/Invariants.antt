use Rattle.std.proofs.Common.{◌≡◌, length}
use Rattle.std.specs.Io.KnownBytes.{Keeps}
use Rattle.sw_headers.specs.Left.{known_under}
use Rattle.sw_headers.proofs.source.Under.read.Given as goal

abbrev pub invariant-loop : goal.invariant-loop
invariant-loop g l = (length l.buf ≡ length l.fn.buf)
    × Keeps (known_under l.fn.self (g.R.Read.remaining l.fn.source)) (known_under l.self (g.R.Read.remaining l.source))
