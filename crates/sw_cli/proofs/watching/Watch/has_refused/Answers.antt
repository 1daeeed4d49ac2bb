use Rattle.sw_cli.proofs.RefusedLines.{seen}
use Rattle.sw_cli.proofs.watching.Watch.has_refused.Goals as goal

pub returns : goal.returns
returns c = seen c.args.self.now
