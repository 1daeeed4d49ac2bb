use Rattle.std.proofs.Common.{ap, ◌∙◌, map}
use Rattle.sw_set.specs.Prepared.{IsReady}
use Rattle.sw_set.proofs.Areas.Looks.{look}
use Rattle.sw_set.proofs.area.boxes.Boxes.at_end.Goals as goal

pub returns : goal.returns
returns g c = look g.M.CrackerMap.held (λ m. IsReady c.args.tail c.args.tape.now m → ⊥) (IsReady c.args.tail c.args.tape.now) c.find_at_end.result c.as_slice.result.now c.args.self.now (ap (map g.M.CrackerMap.held) c.as_slice.ensures.value ∙ c.self.view_is) c.find_at_end.ensures
