use Rattle.std.proofs.Common.{◌≡◌, ◌++◌, drop}
use Rattle.std.specs.Prelude.{map}
use Rattle.serde_json.specs.View.{items_of}
use Rattle.serde_json.specs.Written.{compact_text, items_text}
use Rattle.sw_rows.specs.Header.{kinds_of}
use Rattle.sw_histories.specs.RecordText.{row_data, list_data}
use Rattle.sw_histories.proofs.writing.put_rows.Given as goal

abbrev pub invariant-loop-place : goal.invariant-loop-place
invariant-loop-place l = l.fn.text.items ++ compact_text (list_data (map (row_data (kinds_of l.schema)) l.rows.items)) ≡ l.text.items ++ items_text l.is_later (items_of (map (row_data (kinds_of l.schema)) (drop l.place l.rows.items)))
