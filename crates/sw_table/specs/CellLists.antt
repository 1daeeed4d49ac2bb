-- A list of cells, of its own or one that several share.
use Rattle.std.specs.Prelude.{◌≡◌, ◌≤◌, [], ℤ, List, Option, None, Some, length, vec_capacity}
use Rattle.std.specs.Arc.{arc_value}
use Rattle.std.specs.Global.{Global, Vec}
use Rattle.std.specs.declared.sync.Arc.{Arc}

-- the cells that are shared, if any are, else those of its own
abbrev pub cells_in : Vec ℤ → Option (Arc (Vec ℤ) Global) → List ℤ
cells_in own None = own.items
cells_in own (Some shared) = (arc_value shared).items

-- where cells are shared, the list of its own is empty, and has room for them
abbrev pub KeepsRoom : Vec ℤ → Option (Arc (Vec ℤ) Global) → Type 0
KeepsRoom own None = Unit {0}
KeepsRoom own (Some shared) = (own.items ≡ []) × (length (arc_value shared).items ≤ vec_capacity own)
