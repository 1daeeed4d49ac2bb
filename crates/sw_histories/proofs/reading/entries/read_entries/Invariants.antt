use Rattle.std.proofs.Common.{◌≡◌, ◌+◌, ◌≤◌, ℕ, List, [], length, Some}
use Rattle.std.specs.Prelude.{IfSome}
use Rattle.json.specs.Json.{items, value}
use Rattle.serde_json.specs.Data.{Data}
use Rattle.serde_json.specs.Read.{converted, of_items}
use Rattle.sw_spine.specs.History.{AllBelow}
use Rattle.sw_spine.specs.declared.spine.TheConstants.{MOST_ENTRIES}
use Rattle.sw_histories.specs.RecordReading.{entries_after}
use Rattle.sw_histories.specs.Outlines.{values_in}
use Rattle.sw_histories.proofs.Found.EntriesLemmas.{listed}
use Rattle.sw_histories.proofs.reading.entries.read_entries.Given as goal

abbrev pub invariant-entries : goal.invariant-entries
invariant-entries l =
    (n : ℕ) × (left : List Data) × (length l.reader ≤ n)
    × (listed (converted of_items (items (value 125) n l.reader)) ≡ Some left)
    × (length l.entries.items + length left ≤ MOST_ENTRIES)
    × AllBelow (length l.schema) l.entries.items
    × IfSome (values_in l.initial.reader) (λ ds. entries_after l.format l.fn.schema [] ds ≡ entries_after l.format l.schema l.entries.items left)

abbrev pub decreases-entries : goal.decreases-entries
decreases-entries l = length l.reader
