use Rattle.std.proofs.Common.{◌∙◌}
use Rattle.std.proofs.Math.Seq.{map-set_same}
use Rattle.sw_set.proofs.area.boxes.trim_all.Goals as goal

pub loop-at-preserved : goal.loop-at-preserved
loop-at-preserved g c =
    let held = g.M.CrackerMap.held in
    let it = c.index-boxes-at.result in
    map-set_same held c.loop-at.boxes c.loop-at.at c.trim.new.self it c.trim.ensures ∙ c.loop-at.invariant
