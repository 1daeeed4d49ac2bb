-- The table of what each head tells of itself after a run.
use Rattle.std.specs.Prelude.{ℕ, List, ◌++◌, codes}
use Rattle.sw_engine.specs.declared.heads.counting.HeadStats.{HeadStats}
use Rattle.sw_cli.specs.Faults.{labelled}

-- the names of the columns
abbrev pub stats_title : List ℕ
stats_title = codes "head queries areas pieces entries restarts maps cells scans ms\n"

-- two numbers, each after a space
abbrev pub two : ℕ → ℕ → List ℕ
two a b = labelled (codes " ") a ++ labelled (codes " ") b

-- the milliseconds, and the line's end
abbrev pub after_scans : ℕ → List ℕ
after_scans millis = labelled (codes " ") millis ++ codes "\n"

abbrev pub after_maps : HeadStats → ℕ → List ℕ
after_maps s millis = two s.figures.cells s.scans ++ after_scans millis

abbrev pub after_entries : HeadStats → ℕ → List ℕ
after_entries s millis = two s.figures.restarts s.figures.maps ++ after_maps s millis

abbrev pub after_areas : HeadStats → ℕ → List ℕ
after_areas s millis = two s.figures.pieces s.figures.entries ++ after_entries s millis

-- the numbers of a head in the order of their names, the milliseconds, and the line's end
abbrev pub numbers_text : HeadStats → ℕ → List ℕ
numbers_text s millis = two s.queries s.figures.areas ++ after_areas s millis

-- the line of a head, whose attribute has this name, and whose selects took so many milliseconds
abbrev pub stats_line : List ℕ → HeadStats → ℕ → List ℕ
stats_line name s millis = name ++ numbers_text s millis
