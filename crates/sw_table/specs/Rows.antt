-- A row.
use Rattle.std.specs.Prelude.{◌≡◌, ◌≢◌, ◌<◌, ℕ, ℤ, pos, List, get_or, length, slice_index_or, All}
use Rattle.sw_table.specs.declared.row.Row.{Row}

-- a row's cell of an attribute
abbrev pub cell_of : ℕ → Row → ℤ
cell_of a r = get_or r.cells a (pos 0)

-- none of the rows has the key
abbrev pub HasNoRow : ℕ → List Row → Type 0
HasNoRow key rows = All (λ (r : Row). r.key ≢ key) rows

-- the row of a key stands at a place
abbrev pub IsRowAt : ℕ → List Row → ℕ → Type 0
IsRowAt key rows p = (p < length rows) × ((d : Row) → (slice_index_or rows p d).key ≡ key)
