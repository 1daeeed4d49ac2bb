use Rattle.std.proofs.Common.{◌≡◌, ◌≤◌, drop, length}
use Rattle.sw_arrays.specs.Blocks.{keys_in}
use Rattle.sw_arrays.proofs.Blocks.{part_filled}
use Rattle.sw_arrays.proofs.copied.keys_into.Given as goal

abbrev pub invariant-loop-place : goal.invariant-loop-place
invariant-loop-place l =
    (l.out ≡ part_filled l.place (keys_in l.initial.left) l.initial.out) × (l.left ≡ drop l.place l.initial.left)
    × (l.place ≤ length l.initial.left)
