use Rattle.std.proofs.Common.{rules}
use Rattle.sw_query.specs.declared.bound.Bound.TheVariants.{Before}
use Rattle.sw_kernel.specs.Blocks.{goes_up}
use Rattle.sw_kernel.proofs.movers.note_up.Goals as goal

pub returns : goal.returns
returns c = c.note.ensures (goes_up (Before c.args.value) c.args.head.now c.args.from) (search rules) c.requires.told
