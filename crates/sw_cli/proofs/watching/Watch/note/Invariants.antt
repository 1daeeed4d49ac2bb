use Rattle.std.proofs.Common.{◌≡◌, ◌++◌, ℕ, List, length}
use Rattle.sw_cli.specs.RefusedLines.{tells_then}
use Rattle.sw_cli.proofs.watching.Watch.note.Given as goal

abbrev pub invariant-loop-byte : goal.invariant-loop-byte
invariant-loop-byte l = (later : List ℕ) → tells_then l.self (l.rest ++ later) ≡ tells_then l.fn.self (l.bytes ++ later)

abbrev pub decreases-loop-byte : goal.decreases-loop-byte
decreases-loop-byte l = length l.rest
