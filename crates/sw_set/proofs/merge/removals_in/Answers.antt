use Rattle.std.proofs.Common.{arith}
use Rattle.sw_set.proofs.Merging.Removals.{past-end, past-insertion, past-removal}
use Rattle.sw_set.proofs.merge.removals_in.Goals as goal
use Rattle.sw_set.proofs.merge.removals_in.Goals.{in-Insert, in-Remove}

pub loop-update-preserved : goal.loop-update-preserved
loop-update-preserved c =
    let now = c.loop-update.invariant.0 in
    let few = c.loop-update.invariant.1 in
    elim c.match-update.branch [
      | in-Insert w ↦ let past = past-insertion _ _ _ _ c.loop-update-test.true w.in-Insert.is in let none = w.many-is in (omega (arith, now, past, none), omega (arith, few, none))
      | in-Remove w ↦ let past = past-removal _ _ _ _ c.loop-update-test.true w.in-Remove.is in let one = w.many-is in (omega (arith, now, past, one), omega (arith, few, one))
    ]

pub returns : goal.returns
returns c = let none = past-end c.args.updates.now c.loop-update.update-index c.loop-update-test.false in let now = c.loop-update.invariant.0 in omega (arith, none, now)
