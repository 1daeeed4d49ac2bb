use Rattle.std.proofs.Common.{◌≡◌, ◌≤◌, ◌+◌, length, arith}
use Rattle.sw_map.specs.Held.{pairs_in}
use Rattle.sw_set.specs.Choice.{side_in}
use Rattle.sw_set.specs.declared.reply.window.Side.TheVariants.{Tail}
use Rattle.sw_set.proofs.Merging.Positions.{lacks-on}
use Rattle.sw_set.proofs.Replying.Stock.{side-long}
use Rattle.sw_set.proofs.merge.position.skip_others.Goals as goal

pub loop-block-preserved : goal.loop-block-preserved
loop-block-preserved g c =
    let m = g.M.CrackerMap.held c.args.it.now in
    let (before, passed) = c.loop-block.invariant in
    let place = c.loop-block.place in
    let room : place + 256 ≤ c.args.upto = omega (arith, c.saturating_sub.ensures, c.loop-block-test.true) in
    let many : length (side_in Tail m) ≡ pairs_in m = side-long Tail m in
    let read = rw c.loop-block-test.array_long at c.read_tails.ensures in (
      omega (arith, before),
      lacks-on (side_in Tail m) c.read_tails.new.tails c.args.key c.args.from place (place + 256) (omega (arith, room, many, c.requires.within)) read passed (c.lack_key.ensures c.if-not-lack_key.false),
    )
