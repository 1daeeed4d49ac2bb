-- What a column has: which cells, the least and the greatest, and how often each.
use Rattle.std.specs.Prelude.{ℤ, ℕ, List, [], ◌∷◌, ◌++◌, Option, Some, None, if◌then◌else◌, fold, filter, length}
use Rattle.std.specs.Ordering.{int_eq}
use Rattle.std.specs.List.{list_any}
use Rattle.std.specs.Int.{int_min, int_max}

-- the cells that were seen, and one more, which comes last where it is new
abbrev pub with_cell : List ℤ → ℤ → List ℤ
with_cell seen z = if list_any (int_eq z) seen then seen else seen ++ z ∷ []

-- the cells of a column, each once, in the order in which they first stand there
abbrev pub each_once : List ℤ → List ℤ
each_once zs = fold with_cell [] zs

-- the lesser of the least so far, if there is one, and a cell; and the greater
abbrev pub lesser_with : Option ℤ → ℤ → Option ℤ
lesser_with None z = Some z
lesser_with (Some least) z = Some (int_min least z)

abbrev pub greater_with : Option ℤ → ℤ → Option ℤ
greater_with None z = Some z
greater_with (Some greatest) z = Some (int_max greatest z)

-- the least cell of a column, and the greatest, where it has cells
abbrev pub least : List ℤ → Option ℤ
least zs = fold lesser_with None zs

abbrev pub greatest : List ℤ → Option ℤ
greatest zs = fold greater_with None zs

-- how often a cell stands in a column
abbrev pub times : ℤ → List ℤ → ℕ
times z zs = length (filter (int_eq z) zs)
