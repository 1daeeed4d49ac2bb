use Rattle.std.proofs.Common.{◌∙◌, ◌++◌, ap}
use Rattle.sw_outputs.proofs.Pieces.{refused_text}
use Rattle.sw_outputs.proofs.lines.put_refused.Goals as goal

pub returns : goal.returns
returns c = c.in_ok-extend_from_slice.ensures.items ∙ ap (λ t. c.args.line.now.items ++ t) refused_text
