use Rattle.std.proofs.Common.{rules}
use Rattle.sw_query.specs.declared.bound.Bound.TheVariants.{Before}
use Rattle.sw_kernel.specs.Blocks.{goes_down}
use Rattle.sw_kernel.proofs.movers.note_down.Goals as goal

pub returns : goal.returns
returns c = c.note.ensures (goes_down (Before c.args.value) c.args.head.now c.args.end) (search rules) c.requires.told
