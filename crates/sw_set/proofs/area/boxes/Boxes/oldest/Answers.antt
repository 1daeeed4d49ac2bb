use Rattle.std.proofs.Common.{◌≡◌, false}
use Rattle.sw_set.proofs.Areas.Views.{any-at}
use Rattle.sw_set.proofs.area.boxes.Boxes.oldest.Goals as goal

pub returns : goal.returns
returns g c = any-at _ c.in-Some.at (λ m. m.is_blank ≡ false) c.in-Some.ensures.0 (λ d. (c.in-Some.ensures.1 d).0)
