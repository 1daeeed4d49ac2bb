-- What a head tells of its areas in numbers.
use Rattle.std.specs.Prelude.{◌≡◌, ◌+◌, ℕ, List, [], ◌∷◌, length, sum_by}
use Rattle.sw_tape.specs.Bounds.{HasPieces}
use Rattle.sw_set.specs.Figures.{capped, cells_among, maps_among}
use Rattle.sw_set.specs.Shelf.{AreaState}

-- the pieces of areas one by one, and their sum
abbrev pub SumPieces : List AreaState → ℕ → Type 0
SumPieces [] n = n ≡ 0
SumPieces (x ∷ xs) n = (k m : ℕ) × HasPieces k x.tape × SumPieces xs m × (n ≡ k + m)

-- so many pieces, up to the greatest number
abbrev pub HavePieces : List AreaState → ℕ → Type 0
HavePieces xs n = (m : ℕ) × SumPieces xs m × (n ≡ capped m)

-- how many entries the tapes have
abbrev pub areas_entries : List AreaState → ℕ
areas_entries xs = sum_by (λ (x : AreaState). length x.tape) xs

-- how many boxes have maps
abbrev pub areas_maps : List AreaState → ℕ
areas_maps xs = sum_by (λ (x : AreaState). capped (maps_among x.boxes)) xs

-- how many cells their leases have
abbrev pub areas_cells : List AreaState → ℕ
areas_cells xs = sum_by (λ (x : AreaState). capped (cells_among x.boxes)) xs
