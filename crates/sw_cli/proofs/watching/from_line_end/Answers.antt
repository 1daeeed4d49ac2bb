use Rattle.sw_cli.proofs.RefusedLines.{line_end}
use Rattle.sw_cli.proofs.watching.from_line_end.Goals as goal

pub returns-clause-same : goal.returns-clause-same
returns-clause-same c = λ later.
    line_end c.memchr.result c.unwrap_or-at.result c.args.bytes.now later c.memchr.ensures c.unwrap_or-at.ensures
