use Rattle.std.proofs.Common.{◌≡◌, map, take}
use Rattle.sw_set.specs.Figures.{capped, cells_among}
use Rattle.sw_set.proofs.area.figures.cells_among.Given as goal

abbrev pub invariant-loop-it : goal.invariant-loop-it
invariant-loop-it g l = l.cells ≡ capped (cells_among (take l.it-index (map g.M.CrackerMap.held l.boxes)))
