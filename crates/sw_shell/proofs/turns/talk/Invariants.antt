use Rattle.std.proofs.Common.{◌≡◌, ℕ}
use Rattle.sw_shell.specs.Talks.{Reached, seen_at}
use Rattle.sw_shell.proofs.turns.talk.Given as goal

-- the session is the same, and what was seen last was reached from what was seen first
abbrev pub invariant-loop-number : goal.invariant-loop-number
invariant-loop-number g l =
    (l.seat.0 ≡ l.fn.seat.0) × (n : ℕ) × Reached n (seen_at l.fn.seat l.fn.console) (seen_at l.seat l.console)
