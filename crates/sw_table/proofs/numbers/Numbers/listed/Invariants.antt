use Rattle.std.proofs.Common.{◌≡◌, take}
use Rattle.sw_table.proofs.numbers.Numbers.listed.Given as goal

abbrev pub invariant-loop-place : goal.invariant-loop-place
invariant-loop-place l = l.keys.items ≡ take l.place l.self
