use Rattle.std.proofs.Common.{◌≡◌, take}
use Rattle.sw_table.specs.Live.{live_rows}
use Rattle.sw_spine.specs.Replays.{rows_without}
use Rattle.sw_spine.proofs.replay.drop_keys.Given as goal

abbrev pub invariant-loop-key : goal.invariant-loop-key
invariant-loop-key l = record {
  rows : live_rows l.table ≡ rows_without (take l.key-index l.keys) (live_rows l.initial.table);
  top : l.table.top ≡ l.initial.table.top;
}
