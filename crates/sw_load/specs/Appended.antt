-- A list of cells that grows at its end.
use Rattle.std.specs.Prelude.{◌≡◌, ◌+◌, ◌<◌, ◌^◌, ◌++◌, ℤ, pos, List, length, vec_len, All}
use Rattle.std.specs.Global.{Vec}
use Rattle.sw_table.specs.declared.row.Row.{Row}
use Rattle.sw_table.specs.Packed.{IsSameRoom, stretch}
use Rattle.sw_table.specs.Rows.{cell_of}
use Rattle.sw_load.specs.declared.columns.Column.{Column}
use Rattle.sw_load.specs.declared.columns.Column.TheVariants.{Key, Cell}
use Rattle.sw_load.specs.declared.part.Part.{Part}

-- the rows of a part
abbrev pub part_of : List Row → Part → List Row
part_of rows part = stretch part.start part.many rows

-- a row's key, as a cell
abbrev pub key_cell : Row → ℤ
key_cell r = pos r.key

-- what a list holds of a row
abbrev pub cell_or_key : Column → Row → ℤ
cell_or_key Key = key_cell
cell_or_key (Cell attr) = cell_of attr

-- where the keys of some rows are asked for, they fit a cell
abbrev pub Fit : Column → List Row → Type 0
Fit Key rows = All (λ (r : Row). r.key < 2 ^ 63) rows
Fit (Cell attr) rows = Unit {0}

-- a vector has some cells more at its end, in the room that it had
pub record IsAppended (more : List ℤ) (old new : Vec ℤ) : Type 0 where
  pub items : new.items ≡ old.items ++ more
  pub room : IsSameRoom old new
  pub len : vec_len new ≡ vec_len old + length more
