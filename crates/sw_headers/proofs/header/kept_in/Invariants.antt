use Rattle.std.proofs.Common.{◌≡◌, ◌+◌, ◌≤◌, length}
use Rattle.sw_headers.specs.Under.{kept_in}
use Rattle.sw_headers.proofs.header.kept_in.Given as goal

abbrev pub invariant-loop-is_kept : goal.invariant-loop-is_kept
invariant-loop-is_kept l = (l.count + kept_in l.rest ≡ kept_in l.keeps) × (l.count + length l.rest ≤ length l.keeps)

abbrev pub decreases-loop-is_kept : goal.decreases-loop-is_kept
decreases-loop-is_kept l = length l.rest
