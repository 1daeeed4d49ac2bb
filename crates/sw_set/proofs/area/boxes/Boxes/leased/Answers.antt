use Rattle.std.proofs.Common.{◌≡◌, ap, ◌∙◌, map, false, Contains}
use Rattle.sw_set.proofs.Areas.Looks.{look}
use Rattle.sw_set.proofs.area.boxes.Boxes.leased.Goals as goal

pub returns : goal.returns
returns g c = look g.M.CrackerMap.held (λ m. m.is_blank ≡ false → Contains c.args.tails.now m.tail) (λ m. (m.is_blank ≡ false) × ¬ Contains c.args.tails.now m.tail) c.find_leased.result c.as_slice.result.now c.args.self.now (ap (map g.M.CrackerMap.held) c.as_slice.ensures.value ∙ c.self.view_is) c.find_leased.ensures
