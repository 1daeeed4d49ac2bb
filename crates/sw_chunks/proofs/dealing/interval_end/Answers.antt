use Rattle.std.proofs.Common.{◌∙◌}
use Rattle.sw_chunks.proofs.Dealt.{looked-up}
use Rattle.sw_chunks.proofs.dealing.interval_end.Goals as goal

pub returns : goal.returns
returns c i = c.copied.ensures ∙ looked-up c.args.cuts.now c.args.place c.get.result i c.requires c.get.ensures.lookup.3
