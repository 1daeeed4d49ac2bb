use Rattle.sw_kernel.proofs.Blocks.{tells-note}
use Rattle.sw_kernel.proofs.movers.note.Goals as goal

pub returns : goal.returns
returns c = λ test e h. tells-note test c.args.k c.args.movers c.args.goes c.requires e h
