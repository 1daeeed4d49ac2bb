-- Rows as one flat list of cells.
use Rattle.std.specs.Prelude.{◌≡◌, ◌≤◌, ◌*◌, ◌+◌, ◌++◌, ◌∷◌, [], ℕ, ℤ, pos, List, length, take, drop, map, replicate, vec_len, vec_capacity, All}
use Rattle.std.specs.Global.{Vec}
use Rattle.std.specs.List.{range_with_len}
use Rattle.sw_table.specs.declared.row.Row.{Row}

abbrev pub zeros : List ℤ
zeros = replicate 8 (pos 0)

-- the first n cells of a list, and 0 after them
abbrev pub row_of : ℕ → ℕ → List ℤ → Row
row_of n key cells = record { key = key; cells = take n cells ++ drop n zeros }

-- the rows of some keys, where each has n cells of a list
abbrev pub rows_in : ℕ → List ℕ → List ℤ → List Row
rows_in n [] cells = []
rows_in n (key ∷ keys) cells = row_of n key cells ∷ rows_in n keys (drop n cells)

-- rows whose cells from the width on are 0
pub record Packed : Type 0 where
  pub width : ℕ
  pub items : List Row

-- so many rows of n cells each, whose keys are 1, 2, 3 and so on
abbrev pub numbered : ℕ → ℕ → List ℤ → Packed
numbered n many cells = record { width = n; items = rows_in n (range_with_len 1 many) cells }

-- all cells of a row from the n-th on are 0
abbrev pub IsWithin : ℕ → Row → Type 0
IsWithin n r = drop n r.cells ≡ drop n zeros

-- the least number from 1 up of cells that all of some rows are within
pub record IsLeastWidth (rows : List Row) (n : ℕ) : Type 0 where
  pub some : 1 ≤ n
  pub most : n ≤ 8
  pub within : All (IsWithin n) rows
  pub least : (m : ℕ) → 1 ≤ m → All (IsWithin m) rows → n ≤ m

-- a row with its key raised by n
abbrev pub row_behind : ℕ → Row → Row
row_behind n r = record r { key = n + r.key }

-- rows, and more of them behind, whose keys are raised by how many there were
abbrev pub behind : List Row → List Row → List Row
behind rows more = rows ++ map (row_behind (length rows)) more

-- each row has its cells
pub record IsWhole (width : ℕ) (keys : List ℕ) (cells : List ℤ) : Type 0 where
  pub some : 1 ≤ width
  pub most : width ≤ 8
  pub whole : length cells ≡ length keys * width

-- so many items of a list at most, from a place on
abbrev pub stretch : {X : Type 0} → ℕ → ℕ → List X → List X
stretch start many xs = take many (drop start xs)

-- the same rows, and a stretch of others behind them
abbrev pub with_stretch : ℕ → ℕ → List Row → Packed → Packed
with_stretch start many rows p = record p { items = p.items ++ stretch start many rows }

-- the width stays where some rows are within it
abbrev pub KeepsWidth : List Row → Packed → Packed → Type 0
KeepsWidth rows old new = All (IsWithin old.width) rows → new.width ≡ old.width

-- a vector has room for so many items more
abbrev pub HasRoomFor : ℕ → Vec ℤ → Type 0
HasRoomFor more v = vec_len v + more ≤ vec_capacity v

-- a vector's room is what it was
abbrev pub IsSameRoom : Vec ℤ → Vec ℤ → Type 0
IsSameRoom old new = vec_capacity new ≡ vec_capacity old
