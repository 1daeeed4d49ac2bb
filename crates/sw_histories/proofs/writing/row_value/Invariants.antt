use Rattle.std.proofs.Common.{◌≡◌, ◌++◌, drop}
use Rattle.std.specs.Prelude.{map}
use Rattle.serde_json.specs.View.{view}
use Rattle.sw_rows.specs.Header.{kinds_of}
use Rattle.sw_histories.specs.RecordText.{cells_data}
use Rattle.sw_histories.proofs.writing.row_value.Given as goal

abbrev pub invariant-loop-attr : goal.invariant-loop-attr
invariant-loop-attr l = map view l.items.items ++ cells_data (drop l.attr (kinds_of l.schema)) (drop l.attr l.row.cells) ≡ cells_data (kinds_of l.schema) l.row.cells
