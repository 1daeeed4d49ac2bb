-- What an area tells of its boxes in numbers.
use Rattle.std.specs.Prelude.{ℕ, List, cond, min}
use Rattle.std.specs.List.{sum_by}
use Rattle.sw_map.specs.Held.{Held}

-- up to the greatest number of 64 bits
abbrev pub capped : ℕ → ℕ
capped n = min n 18446744073709551615

-- one where a box has a map
abbrev pub map_count : Held → ℕ
map_count m = cond m.is_blank 0 1

-- how many of the boxes have maps
abbrev pub maps_among : List Held → ℕ
maps_among ms = sum_by map_count ms

-- how many cells their leases have
abbrev pub cells_among : List Held → ℕ
cells_among ms = sum_by (λ (m : Held). m.cells) ms
