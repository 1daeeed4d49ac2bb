use Rattle.sw_set.specs.Boxed.{AreDropped}
use Rattle.sw_set.proofs.area.boxes.Boxes.shed.Given as goal

abbrev pub invariant-loop-gone : goal.invariant-loop-gone
invariant-loop-gone g l = AreDropped l.most l.initial.self l.self l.gone
