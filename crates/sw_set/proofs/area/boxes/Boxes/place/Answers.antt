use Rattle.std.proofs.Common.{◌∙◌, ap}
use Rattle.sw_map.specs.Held.{Held, place_of}
use Rattle.sw_set.proofs.Areas.Views.{placed}
use Rattle.sw_set.proofs.area.boxes.Boxes.place.Goals as goal

pub returns-in-Some : goal.returns-in-Some
returns-in-Some g c = placed _ _ _ _ _ c.requires.apart c.in-Some.ensures.0 c.in-Some.ensures.1 (λ d. c.find.ensures ∙ ap (λ (m : Held). place_of c.args.bound m.pairs) (c.at.ensures d))
