use Rattle.std.proofs.Common.{◌≡◌, false, length, map}
use Rattle.sw_histories.specs.RecordText.{entry_data, items_then}
use Rattle.sw_histories.proofs.writing.put_entries_before.Given as goal

abbrev pub invariant-loop-entry : goal.invariant-loop-entry
invariant-loop-entry l = items_then false (map (entry_data l.schema) l.left.items) l.text ≡ items_then false (map (entry_data l.schema) l.fn.entries.items) l.fn.text

abbrev pub decreases-loop-entry : goal.decreases-loop-entry
decreases-loop-entry l = length l.left.items
