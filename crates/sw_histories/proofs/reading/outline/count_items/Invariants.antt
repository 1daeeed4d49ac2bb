use Rattle.std.proofs.Common.{◌≡◌, ℕ, ◌≤◌, List, length}
use Rattle.json.specs.Json.{items, value, parse_map}
use Rattle.serde_json.specs.Read.{converted, of_items}
use Rattle.serde_json.specs.declared.value.Value.{Value}
use Rattle.sw_histories.specs.FromTokens.{IsCount}
use Rattle.sw_histories.proofs.Found.ValueReading.{items_before}
use Rattle.sw_histories.proofs.reading.outline.count_items.Given as goal

abbrev pub invariant-items : goal.invariant-items
invariant-items l =
    (n : ℕ) × (vs : List Value) × (length l.reader ≤ n)
    × (converted of_items (items (value l.depth) (length l.initial.reader) l.initial.reader) ≡ parse_map (items_before vs) (converted of_items (items (value l.depth) n l.reader)))
    × (length l.reader ≤ length l.initial.reader)
    × IsCount l.count (length vs)

abbrev pub decreases-items : goal.decreases-items
decreases-items l = length l.reader
