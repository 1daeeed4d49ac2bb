use Rattle.std.proofs.Common.{◌≡◌, ◌∙◌, List, map, length, ap, arith}
use Rattle.std.proofs.lemmas.List.{length-map}
use Rattle.sw_set.proofs.Areas.Shelves.{written}
use Rattle.sw_set.proofs.area.boxes.Boxes.trim.Goals as goal

pub returns : goal.returns
returns g c =
    let held = g.M.CrackerMap.held in
    let s = c.self.inside in
    let ys = c.trim_all.new.boxes in
    let same : map held ys ≡ map held s.maps.items = c.trim_all.ensures ∙ ap (λ (v : List g.row.M.Denot). map held v) c.as_mut_slice.ensures.value in
    let one = length-map ys held in
    let two = length-map s.maps.items held in
    let many = ap length same in
    let n : s.maps.len ≡ length ys = omega (arith, one, two, many) in
    rw (written s.maps.len ys s.maps.items n) (same ∙ c.self.view_is)
