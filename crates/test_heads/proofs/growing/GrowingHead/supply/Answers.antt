use Rattle.std.proofs.Common.{List, ap, sym, subst}
use Rattle.sw_table.specs.declared.row.Update.{Update}
use Rattle.sw_chunks.specs.Heads.{HeadState}
use Rattle.test_heads.specs.Growing.{AreLive}
use Rattle.test_heads.proofs.Live.{supplied-same}
use Rattle.test_heads.proofs.growing.GrowingHead.supply.Goals as goal
use Rattle.test_heads.proofs.growing.GrowingHead.supply.Goals.{in-Ok, in-Err}

pub invariant_of-self : goal.invariant_of-self
invariant_of-self g c = elim c.match-supply.branch [
  | in-Ok w ↦ subst (λ (us : List Update). AreLive us c.self.inside.live.items) (sym (supplied-same _ _ w.in-Ok.ensures)) c.self.invariant
  | in-Err w ↦ subst (λ (us : List Update). AreLive us c.self.inside.live.items) (sym (ap (λ (h : HeadState). h.updates) w.in-Err.ensures.0)) c.self.invariant
]
