use Rattle.sw_map.specs.Held.{blank}
use Rattle.sw_set.proofs.Preparing.Ends.{found-none}
use Rattle.sw_set.proofs.prepare.place_in_box.Goals as goal

pub unreachable-requires : goal.unreachable-requires
unreachable-requires g c = found-none c.args.bound c.in-Some.b c.args.absent _ c.in-Some.is (c.in-None.ensures blank) (c.requires.marked blank)
