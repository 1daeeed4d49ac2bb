use Rattle.std.proofs.Common.{◌≡◌, ◌++◌, length}
use Rattle.std.specs.Prelude.{map}
use Rattle.serde_json.specs.View.{items_of}
use Rattle.serde_json.specs.Written.{compact_text, items_text}
use Rattle.sw_histories.specs.RecordText.{entry_data, list_data}
use Rattle.sw_histories.proofs.writing.put_entries.Given as goal

abbrev pub invariant-loop-entry : goal.invariant-loop-entry
invariant-loop-entry l = l.fn.text.items ++ compact_text (list_data (map (entry_data l.schema) l.entries)) ≡ l.text.items ++ items_text l.is_later (items_of (map (entry_data l.schema) l.rest))

abbrev pub decreases-loop-entry : goal.decreases-loop-entry
decreases-loop-entry l = length l.rest
