use Rattle.std.proofs.Common.{◌≡◌, ◌≤◌, ◌+◌, ◌-◌, ◌++◌, ℕ, length, map, take, vec_capacity, vec_len}
use Rattle.sw_table.specs.declared.row.Update.TheVariants.{Remove}
use Rattle.sw_spine.specs.Listed.{KeepsListed}
use Rattle.sw_spine.specs.Table.{KeepsSlots}
use Rattle.sw_spine.proofs.store.remove_each.Given as goal

abbrev pub invariant-loop-key : goal.invariant-loop-key
invariant-loop-key l = record {
  items : l.later.items ≡ l.initial.later.items ++ map (λ (k : ℕ). Remove k) (take l.key-index l.keys);
  listed : KeepsListed l.initial.live.items l.live.items;
  slots : KeepsSlots l.initial.later.items l.initial.live.items l.later.items l.live.items;
  room : vec_len l.later + (length l.keys - l.key-index) ≤ vec_capacity l.later;
}
