use Rattle.std.proofs.Common.{ℕ, ◌<◌, All, take}
use Rattle.test_sessions.proofs.below.names_below.Given as goal

abbrev pub invariant-loop-name : goal.invariant-loop-name
invariant-loop-name l = All (λ (a : ℕ). a < l.columns) (take l.name-index l.names)
