use Rattle.std.proofs.Common.{◌∙◌, ap, set, List}
use Rattle.std.proofs.lemmas.List.{map-set}
use Rattle.sw_map.specs.Held.{Held, blank}
use Rattle.sw_set.proofs.area.boxes.Boxes.clear_at.Goals as goal

pub returns : goal.returns
returns g c =
    map-set g.M.CrackerMap.held c.self.inside.maps.items c.args.at c.clear_box.new.it
    ∙ ap (set _ c.args.at) c.clear_box.ensures
    ∙ ap (λ (v : List Held). set v c.args.at blank) c.self.view_is
