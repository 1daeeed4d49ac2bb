use Rattle.sw_set.proofs.Areas.Aligning.{at-own}
use Rattle.sw_set.proofs.area.boxes.Boxes.at.Goals as goal

pub returns : goal.returns
returns g c = λ d. at-own g.M.CrackerMap.held c.args.self.now c.self.inside.maps.items c.args.at _ c.self.view_is c.requires c.index.ensures d
