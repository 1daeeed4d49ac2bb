use Rattle.std.proofs.Common.{◌≡◌, All, ℕ, ℤ}
use Rattle.sw_describe.specs.Columns.{times}
use Rattle.sw_describe.proofs.counting.frequent.Given as goal

abbrev pub invariant-loop-cell : goal.invariant-loop-cell
invariant-loop-cell l = All (λ (one : ℤ × ℕ). one.1 ≡ times one.0 l.cells) l.found.items
