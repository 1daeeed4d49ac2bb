use Rattle.std.proofs.Common.{◌∙◌, ap, sym}
use Rattle.sw_chunks.specs.Heads.{HeadState}
use Rattle.test_heads.proofs.Live.{live-opened}
use Rattle.test_heads.proofs.growing.GrowingHead.open.Goals as goal

pub invariant_of-result : goal.invariant_of-result
invariant_of-result g c =
    let slice = c.as_slice.ensures.value in
    live-opened _ _ _ _ _ (ap (λ (h : HeadState). h.updates) c.in_ok-head.ensures) (slice ∙ c.in_ok-rows.ensures.rows) (c.len.ensures ∙ sym c.as_slice.ensures.len) c.in_ok-live.ensures
