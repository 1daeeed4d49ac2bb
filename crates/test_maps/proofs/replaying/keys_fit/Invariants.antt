use Rattle.std.proofs.Common.{◌<◌, ◌^◌, All, take}
use Rattle.sw_table.specs.declared.row.Row.{Row}
use Rattle.test_maps.proofs.replaying.keys_fit.Given as goal

abbrev pub invariant-loop-place : goal.invariant-loop-place
invariant-loop-place l = All (λ (r : Row). r.key < 2 ^ 63) (take l.place l.rows.items)
