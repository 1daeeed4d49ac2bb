use Rattle.std.proofs.Common.{◌≡◌, ◌+◌, drop, length}
use Rattle.sw_arrays.specs.Columns.{knowing}
use Rattle.sw_arrays.proofs.table.know.Given as goal

abbrev pub invariant-loop-place : goal.invariant-loop-place
invariant-loop-place l =
    knowing (length l.initial.schema + 1 + l.place) l.texts l.start (drop l.place l.ends) l.schema
    ≡ knowing (length l.initial.schema + 1) l.texts 0 l.ends l.initial.schema
