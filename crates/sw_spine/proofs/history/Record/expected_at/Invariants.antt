use Rattle.std.proofs.Common.{◌≡◌, ◌≤◌, take}
use Rattle.sw_spine.specs.Table.{opened}
use Rattle.sw_spine.specs.History.{updates_after}
use Rattle.sw_spine.specs.Replays.{StandsAfter}
use Rattle.sw_spine.proofs.history.Record.expected_at.Given as goal

abbrev pub invariant-loop-i : goal.invariant-loop-i
invariant-loop-i l =
    (l.replay.limit ≡ l.self.limit)
    × (l.i ≤ l.place)
    × StandsAfter (updates_after l.self.limit (opened l.self.rows) (take l.i l.self.entries)) l.replay
