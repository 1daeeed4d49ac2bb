use Rattle.std.proofs.Common.{◌≡◌, map, take}
use Rattle.sw_set.specs.Figures.{capped, maps_among}
use Rattle.sw_set.proofs.area.figures.maps_among.Given as goal

abbrev pub invariant-loop-it : goal.invariant-loop-it
invariant-loop-it g l = l.maps ≡ capped (maps_among (take l.it-index (map g.M.CrackerMap.held l.boxes)))
