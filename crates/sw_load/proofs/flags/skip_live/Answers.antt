use Rattle.std.proofs.Common.{◌+◌, arith}
use Rattle.sw_load.proofs.Skipping.{live-on}
use Rattle.sw_load.proofs.flags.skip_live.Goals as goal

pub loop-place-preserved : goal.loop-place-preserved
loop-place-preserved c =
    let (before, within, live) = c.loop-place.invariant in
    let room = c.loop-place-test.true in
    let end = c.loop-place.place + 64 in (
      omega (arith, before),
      omega (arith, within, room),
      live-on c.args.live.now c.args.from c.loop-place.place end (omega (arith, within, room)) live (c.are_all_live.ensures.0 c.if-are_all_live.true),
    )
