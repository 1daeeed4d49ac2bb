use Rattle.std.proofs.Common.{◌≡◌, take}
use Rattle.sw_set.specs.Figures.{capped}
use Rattle.sw_chunks.specs.Figures.{areas_maps}
use Rattle.sw_chunks.proofs.figures.maps_in.Given as goal

abbrev pub invariant-loop-area : goal.invariant-loop-area
invariant-loop-area g l = l.maps ≡ capped (areas_maps (take l.area-index l.areas))
