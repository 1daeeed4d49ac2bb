use Rattle.std.proofs.Common.{◌≡◌, ◌+◌, ◌++◌, ℕ, length, map, take}
use Rattle.sw_table.proofs.keys.Keys.push_behind.Given as goal

abbrev pub invariant-loop-place : goal.invariant-loop-place
invariant-loop-place l = l.self ≡ l.initial.self ++ map (λ (k : ℕ). length l.initial.self + k) (take l.place l.keys)
