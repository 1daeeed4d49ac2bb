use Rattle.std.proofs.Common.{◌≡◌, ◌∙◌, List, map, length, ap, subst, sym, arith, All}
use Rattle.std.proofs.lemmas.List.{length-map}
use Rattle.sw_map.specs.Held.{Held}
use Rattle.sw_map.specs.Lawful.{IsLawful}
use Rattle.sw_set.specs.Aligned.{AreSameMaps, HasRoomWhereNeeded}
use Rattle.sw_set.proofs.Areas.Boxes.{all-held}
use Rattle.sw_set.proofs.Areas.Shelves.{written}
use Rattle.sw_set.proofs.area.boxes.Boxes.align_by.Goals as goal

pub align_boxes-requires-clause-may : goal.align_boxes-requires-clause-may
align_boxes-requires-clause-may g c κs within =
    let held = g.M.CrackerMap.held in
    let is : map held c.as_mut_slice.result.now ≡ c.args.self.now = ap (map held) c.as_mut_slice.ensures.value ∙ c.self.view_is in (
      all-held held (IsLawful c.args.attribute c.args.tape.now) c.as_mut_slice.result.now (subst (All (IsLawful c.args.attribute c.args.tape.now)) (sym is) c.requires.lawful),
      c.requires.keys,
      all-held held (HasRoomWhereNeeded c.args.tails.now c.args.tape.now) c.as_mut_slice.result.now (subst (All (HasRoomWhereNeeded c.args.tails.now c.args.tape.now)) (sym is) c.requires.room),
    )

pub returns-clause-lawful : goal.returns-clause-lawful
returns-clause-lawful g c =
    let held = g.M.CrackerMap.held in
    let s = c.self.inside in
    let ys = c.align_boxes.new.boxes in
    let one = length-map ys held in
    let two = length-map s.maps.items held in
    let value : c.as_mut_slice.result.now ≡ s.maps.items = c.as_mut_slice.ensures.value in
    let same : AreSameMaps (map held s.maps.items) (map held ys) = subst (λ (v : List g.row.M.Denot). AreSameMaps (map held v) (map held ys)) value c.align_boxes.ensures.same in
    let many = same.many in
    let n : s.maps.len ≡ length ys = omega arith in
    rw (written s.maps.len ys s.maps.items n) c.align_boxes.ensures.lawful

pub returns-clause-maps : goal.returns-clause-maps
returns-clause-maps g c =
    let held = g.M.CrackerMap.held in
    let s = c.self.inside in
    let ys = c.align_boxes.new.boxes in
    let one = length-map ys held in
    let two = length-map s.maps.items held in
    let value : c.as_mut_slice.result.now ≡ s.maps.items = c.as_mut_slice.ensures.value in
    let same : AreSameMaps (map held s.maps.items) (map held ys) = subst (λ (v : List g.row.M.Denot). AreSameMaps (map held v) (map held ys)) value c.align_boxes.ensures.same in
    let many = same.many in
    let n : s.maps.len ≡ length ys = omega arith in
    rw (written s.maps.len ys s.maps.items n) (subst (λ (v : List Held). AreSameMaps v (map held ys)) c.self.view_is same)

pub returns-clause-ends : goal.returns-clause-ends
returns-clause-ends g c =
    let held = g.M.CrackerMap.held in
    let s = c.self.inside in
    let ys = c.align_boxes.new.boxes in
    let one = length-map ys held in
    let two = length-map s.maps.items held in
    let value : c.as_mut_slice.result.now ≡ s.maps.items = c.as_mut_slice.ensures.value in
    let same : AreSameMaps (map held s.maps.items) (map held ys) = subst (λ (v : List g.row.M.Denot). AreSameMaps (map held v) (map held ys)) value c.align_boxes.ensures.same in
    let many = same.many in
    let n : s.maps.len ≡ length ys = omega arith in
    rw (written s.maps.len ys s.maps.items n) c.align_boxes.ensures.ends
