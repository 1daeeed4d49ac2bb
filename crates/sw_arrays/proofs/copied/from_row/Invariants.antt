use Rattle.std.proofs.Common.{◌≡◌, drop}
use Rattle.sw_arrays.proofs.copied.from_row.Given as goal

abbrev pub invariant-loop : goal.invariant-loop
invariant-loop l = l.left ≡ drop l.counter l.initial.left
