use Rattle.std.proofs.Common.{ℕ, ◌<◌, All, take}
use Rattle.test_areas.proofs.asking.are_small.Given as goal

abbrev pub invariant-loop-name : goal.invariant-loop-name
invariant-loop-name l = All (λ (a : ℕ). a < 8) (take l.name-index l.names)
