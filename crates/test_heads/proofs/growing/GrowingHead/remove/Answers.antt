use Rattle.std.proofs.Common.{◌∙◌, ap, sym, refl}
use Rattle.sw_table.specs.Updates.{has_key, rows_of}
use Rattle.sw_chunks.specs.Heads.{HeadState}
use Rattle.test_heads.proofs.Live.{live-went}
use Rattle.test_heads.proofs.growing.GrowingHead.remove.Goals as goal

pub invariant_of-self : goal.invariant_of-self
invariant_of-self g c =
    let has = ap (λ (h : HeadState). has_key c.args.key (rows_of h.updates)) c.self.view_is ∙ sym c.if-not-holds.ensures in
    live-went _ _ _ _ c.args.key c.self.invariant has c.in-Ok.ensures.received.updates refl
