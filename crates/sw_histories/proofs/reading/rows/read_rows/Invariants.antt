use Rattle.std.proofs.Common.{◌≡◌, ◌+◌, ◌≤◌, ℕ, List, [], length, Some}
use Rattle.std.specs.Prelude.{IfSome}
use Rattle.json.specs.Json.{items, value}
use Rattle.serde_json.specs.Data.{Data}
use Rattle.serde_json.specs.Read.{converted, of_items}
use Rattle.sw_spine.specs.declared.spine.TheConstants.{MOST_ENTRIES}
use Rattle.sw_histories.specs.RecordReading.{rows_after}
use Rattle.sw_histories.specs.Outlines.{values_in}
use Rattle.sw_histories.proofs.Found.EntriesLemmas.{listed}
use Rattle.sw_histories.proofs.reading.rows.read_rows.Given as goal

abbrev pub invariant-rows : goal.invariant-rows
invariant-rows l =
    (n : ℕ) × (left : List Data) × (length l.reader ≤ n)
    × (listed (converted of_items (items (value 125) n l.reader)) ≡ Some left)
    × (length l.rows.items + length left ≤ MOST_ENTRIES)
    × IfSome (values_in l.initial.reader) (λ ds. rows_after l.fn.schema [] ds ≡ rows_after l.schema l.rows.items left)

abbrev pub decreases-rows : goal.decreases-rows
decreases-rows l = length l.reader
