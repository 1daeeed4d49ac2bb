use Rattle.std.proofs.Common.{◌≡◌, ◌++◌, fold, take}
use Rattle.sw_table.specs.Updates.{rows_then}
use Rattle.sw_set.specs.Live.{IsStandingOf, live_among}
use Rattle.sw_set.specs.Shelf.{came_then}
use Rattle.sw_set.proofs.area.live.LiveRows.after.Given as goal

abbrev pub invariant-loop-update : goal.invariant-loop-update
invariant-loop-update l = IsStandingOf l.load.items l.live × (l.load.items ++ l.live.later ≡ fold came_then (l.load.items ++ l.self.later) (take l.update-index l.updates)) × (live_among l.load.items l.live ≡ fold rows_then (live_among l.load.items l.self) (take l.update-index l.updates))
