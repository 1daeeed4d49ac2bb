use Rattle.std.proofs.Common.{sym, subst, List}
use Rattle.sw_map.specs.Held.{Held}
use Rattle.sw_set.specs.Boxed.{IsCleared}
use Rattle.sw_set.proofs.Areas.Views.{cleared-set}
use Rattle.sw_set.proofs.area.boxes.Boxes.clear.Goals as goal

pub returns-in-Some : goal.returns-in-Some
returns-in-Some g c = subst (λ (v : List Held). IsCleared c.args.tail c.args.self.now v) (sym c.clear_at.ensures) (cleared-set _ _ _ c.requires.apart c.in-Some.ensures.0 c.in-Some.ensures.1)
