use Rattle.std.proofs.Common.{◌≡◌, length, ap, arith}
use Rattle.std.proofs.lemmas.List.{length-map}
use Rattle.sw_map.specs.Held.{Held, blank}
use Rattle.sw_set.proofs.Areas.Boxes.{held-all}
use Rattle.sw_set.proofs.Areas.Shelves.{written}
use Rattle.sw_set.proofs.area.boxes.Boxes.reset.Goals as goal

pub returns-clause-blank : goal.returns-clause-blank
returns-clause-blank g c =
    let s = c.self.inside in
    let ys = c.reset_all.new.boxes in
    let value = ap length c.as_mut_slice.ensures.value in
    let many = c.reset_all.ensures.many in
    let n : s.maps.len ≡ length ys = omega (arith, value, many) in
    rw (written s.maps.len ys s.maps.items n) (held-all g.M.CrackerMap.held (λ (m : Held). m ≡ blank) ys c.reset_all.ensures.blank)

pub returns-clause-many : goal.returns-clause-many
returns-clause-many g c =
    let held = g.M.CrackerMap.held in
    let s = c.self.inside in
    let ys = c.reset_all.new.boxes in
    let value = ap length c.as_mut_slice.ensures.value in
    let many = c.reset_all.ensures.many in
    let n : s.maps.len ≡ length ys = omega (arith, value, many) in
    let one = length-map ys held in
    let two = length-map s.maps.items held in
    let is = ap length c.self.view_is in
    rw (written s.maps.len ys s.maps.items n) (omega (arith, value, many, one, two, is))
