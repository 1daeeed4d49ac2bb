use Rattle.std.proofs.Common.{ap, ◌∙◌, map, List, arith}
use Rattle.std.specs.List.{remove}
use Rattle.sw_map.specs.Held.{Held}
use Rattle.sw_set.proofs.Areas.Dropped.{map-removed}
use Rattle.sw_set.proofs.area.boxes.Boxes.drop_at.Goals as goal

pub invariant_of-self : goal.invariant_of-self
invariant_of-self g c =
    let one = c.remove-box.ensures.len in
    let two = c.remove-stamp.ensures.len in
    let same = c.self.invariant in
    omega (arith, one, two, same)

pub returns : goal.returns
returns g c =
    ap (λ (ys : List g.row.M.Denot). map g.M.CrackerMap.held ys) c.remove-box.ensures.items
    ∙ map-removed g.M.CrackerMap.held c.self.inside.maps.items c.args.at
    ∙ ap (λ (v : List Held). remove v c.args.at) c.self.view_is
