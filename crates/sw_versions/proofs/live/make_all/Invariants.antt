use Rattle.std.proofs.Common.{◌≡◌, take}
use Rattle.sw_table.specs.Live.{live_rows}
use Rattle.sw_versions.specs.Lists.{rows_after}
use Rattle.sw_versions.proofs.live.make_all.Given as goal

abbrev pub invariant-loop-update : goal.invariant-loop-update
invariant-loop-update l = live_rows l.table ≡ rows_after (live_rows l.initial.table) (take l.update-index l.updates)
