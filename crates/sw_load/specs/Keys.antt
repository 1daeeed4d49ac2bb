-- Where a key stands, or would stand, among rows whose keys rise.
use Rattle.std.specs.Prelude.{◌≤◌, ◌<◌, ℕ, List, length, slice_index_or}
use Rattle.sw_table.specs.declared.row.Row.{Row}

-- the keys of the rows before a place are below a key, and those of the rows from there on are not
pub record IsPlaceOf (key : ℕ) (rows : List Row) (p : ℕ) : Type 0 where
  pub within : p ≤ length rows
  pub below : (i : ℕ) (d : Row) → i < p → (slice_index_or rows i d).key < key
  pub above : (i : ℕ) (d : Row) → p ≤ i → i < length rows → key ≤ (slice_index_or rows i d).key
