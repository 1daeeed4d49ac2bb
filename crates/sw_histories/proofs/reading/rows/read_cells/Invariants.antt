use Rattle.std.proofs.Common.{◌≡◌, ◌≤◌, ℕ, pos, drop, take, get_or, length, map, []}
use Rattle.serde_json.specs.View.{view}
use Rattle.sw_rows.specs.Header.{kinds_of}
use Rattle.sw_histories.specs.RecordReading.{cells_after}
use Rattle.sw_histories.proofs.reading.rows.read_cells.Given as goal

abbrev pub invariant-loop-attr : goal.invariant-loop-attr
invariant-loop-attr l = record {
  counts : (l.count ≡ length l.schema) × (l.count ≡ length l.items) × (l.count ≤ 8);
  eight : length l.cells ≡ 8;
  rest : (k : ℕ) → l.attr ≤ k → get_or l.cells k (pos 0) ≡ pos 0;
  read : cells_after (take l.attr l.cells) (drop l.attr (kinds_of l.schema)) (drop l.attr (map view l.items)) ≡ cells_after [] (kinds_of l.schema) (map view l.items);
}
