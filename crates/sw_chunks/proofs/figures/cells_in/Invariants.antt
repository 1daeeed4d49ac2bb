use Rattle.std.proofs.Common.{◌≡◌, take}
use Rattle.sw_set.specs.Figures.{capped}
use Rattle.sw_chunks.specs.Figures.{areas_cells}
use Rattle.sw_chunks.proofs.figures.cells_in.Given as goal

abbrev pub invariant-loop-area : goal.invariant-loop-area
invariant-loop-area g l = l.cells ≡ capped (areas_cells (take l.area-index l.areas))
