use Rattle.std.proofs.Common.{◌≡◌, ℕ, ◌<◌, All}
use Rattle.sw_shell.specs.Rows.{attributes}
use Rattle.sw_shell.proofs.seat.all_of.Given as goal

-- the attributes so far are below 8, and all of them
abbrev pub invariant-loop-attr : goal.invariant-loop-attr
invariant-loop-attr l = All (λ (a : ℕ). a < 8) l.names × (l.names ≡ attributes l.attr)
