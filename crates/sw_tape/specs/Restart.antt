-- What a tape is begun anew with.
use Rattle.std.specs.Prelude.{◌≡◌, ◌<◌, ◌^◌, ◌++◌, ℕ, Bool, List, [], ◌∷◌, length, map}
pub use Rattle.sw_table.specs.Kept.{kept}
use Rattle.sw_table.specs.declared.row.Row.{Row}
use Rattle.sw_kernel.specs.Replay.{Step, loaded, inserted, removed, ranged}
use Rattle.sw_tape.specs.declared.entry.Entry.{Entry}
use Rattle.sw_tape.specs.Entries.{step_of}

-- the rows that an entry loads
abbrev pub first_rows_of : Step Row → List Row
first_rows_of (loaded rows) = rows
first_rows_of (inserted row) = []
first_rows_of (removed place) = []
first_rows_of (ranged lower upper) = []

-- the rows of the one load that a tape begins with
abbrev pub first_rows : List (Step Row) → List Row
first_rows [] = []
first_rows (e ∷ es) = first_rows_of e

-- the rows of a tape's load, and then later ones, that are live
abbrev pub live_load : List Bool → List (Step Row) → List Row → List Row
live_load live tape later = kept live (first_rows tape ++ later)

-- the entries are one load of those
abbrev pub AreOneLoad : List Bool → List Row → List Entry → List Entry → Type 0
AreOneLoad live later old new = map step_of new ≡ loaded (live_load live (map step_of old) later) ∷ []

-- so many rows, and no more than a list can have
abbrev pub IsCountOf : List Row → ℕ → Type 0
IsCountOf rows many = (many ≡ length rows) × (many < 2 ^ 63)
