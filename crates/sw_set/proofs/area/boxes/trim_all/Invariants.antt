use Rattle.std.proofs.Common.{◌≡◌, map}
use Rattle.sw_set.proofs.area.boxes.trim_all.Given as goal

-- what the boxes hold is as it was
abbrev pub invariant-loop-at : goal.invariant-loop-at
invariant-loop-at g l = map g.M.CrackerMap.held l.boxes ≡ map g.M.CrackerMap.held l.initial.boxes
