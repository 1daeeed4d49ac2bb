use Rattle.std.proofs.Common.{◌∙◌}
use Rattle.sw_cli.proofs.Waiting.{taken_on}
use Rattle.sw_cli.proofs.buffered.Buffered.send.Goals as goal

pub loop-self-preserved : goal.loop-self-preserved
loop-self-preserved g c = record {
  kept = taken_on _ _ _ c.loop-self.self.block.items c.loop-self.self.sent c.in_ok-self.field-0 c.loop-self.invariant.kept (rw (c.split_at.ensures.back, c.deref.ensures.value) at c.in_ok-self.ensures.bytes);
  steady = c.in_ok-self.ensures.went ∙ c.loop-self.invariant.steady;
}
