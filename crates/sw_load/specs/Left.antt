-- What is left of rows of which some are gone.
use Rattle.std.specs.Prelude.{ℕ, List, length}
use Rattle.std.specs.Global.{Vec}
use Rattle.sw_table.specs.declared.row.Row.{Row}
use Rattle.sw_table.specs.Packed.{Packed}
use Rattle.sw_load.specs.Gone.{ArePlaces, left_of}

-- what is left of lists in memory
abbrev pub left_in : Packed → Vec ℕ → List Row
left_in all gone = left_of all.items gone.items

-- the places rise, and rows stand there
abbrev pub AreGoneIn : Packed → Vec ℕ → Type 0
AreGoneIn all gone = ArePlaces 0 (length all.items) gone.items
