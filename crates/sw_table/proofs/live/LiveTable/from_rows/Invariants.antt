use Rattle.std.proofs.Common.{◌≡◌, take}
use Rattle.sw_table.specs.Live.{all_live}
use Rattle.sw_table.proofs.live.LiveTable.from_rows.Given as goal

abbrev pub invariant-loop-place : goal.invariant-loop-place
invariant-loop-place l = l.table ≡ all_live (take l.place l.rows.items)
