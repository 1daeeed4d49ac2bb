use Rattle.std.proofs.Common.{◌∙◌}
use Rattle.sw_chunks.proofs.Dealt.{no-start, starts-after}
use Rattle.sw_chunks.proofs.dealing.interval_start.Goals as goal

pub returns-in_err-checked_sub : goal.returns-in_err-checked_sub
returns-in_err-checked_sub c i = c.from_residual.ensures ∙ no-start c.args.cuts.now c.args.place i c.in_err-checked_sub.ensures

pub returns : goal.returns
returns c i = let at = c.in_ok-checked_sub.ensures in c.interval_end.ensures i ∙ starts-after c.args.cuts.now c.in_ok-checked_sub.field-0 c.args.place i at.0 at.1 c.requires
