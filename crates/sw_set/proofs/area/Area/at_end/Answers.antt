use Rattle.std.proofs.Common.{subst}
use Rattle.sw_set.specs.Prepared.{IsReady}
use Rattle.sw_set.specs.Sought.{FindsUnless}
use Rattle.sw_set.specs.Shelf.{AreaState}
use Rattle.sw_set.proofs.area.Area.at_end.Goals as goal

pub returns : goal.returns
returns g c = subst (λ (v : AreaState). FindsUnless (λ m. IsReady c.args.tail v.tape m → ⊥) (IsReady c.args.tail v.tape) v.boxes c.at_end.result) c.self.view_is c.at_end.ensures
