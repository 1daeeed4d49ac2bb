use Rattle.sw_map.specs.Refusals.{HasBegunOr}
use Rattle.sw_set.proofs.Areas.Aligning.{at-set}
use Rattle.sw_set.proofs.area.boxes.Boxes.begin_at.Goals as goal

pub returns-clause-begun : goal.returns-clause-begun
returns-clause-begun g c = at-set g.M.CrackerMap.held c.args.self.now c.self.inside.maps.items c.args.at _ c.self.view_is c.requires c.index_mut.ensures.value c.begin_box.new.it (HasBegunOr c.begin_box.result c.args.attribute c.args.tail c.args.cells) c.begin_box.ensures.begun
