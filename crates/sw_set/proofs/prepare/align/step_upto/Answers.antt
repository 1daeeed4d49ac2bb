use Rattle.std.proofs.Common.{arith}
use Rattle.sw_set.proofs.prepare.align.step_upto.Goals as goal
use Rattle.sw_set.proofs.prepare.align.step_upto.Goals.{in-Some+in_ok-step, in_default}
use Rattle.sw_set.proofs.Areas.Boxes.{way-more, step-next, step-room, step-keys}

pub step-requires-clause-next : goal.step-requires-clause-next
step-requires-clause-next g c = step-next c.args.tape.now c.loop-i.i _ _ _ c.len.ensures.tape c.in-Some.ensures c.loop-i.invariant

pub step-requires-clause-keys : goal.step-requires-clause-keys
step-requires-clause-keys g c = step-keys c.args.tape.now c.loop-i.i _ c.requires.keys c.in-Some.ensures

pub step-requires-clause-room : goal.step-requires-clause-room
step-requires-clause-room g c = step-room c.args.tape.now c.loop-i.i _ _ _ c.len.ensures.tape c.in-Some.ensures c.requires.room c.loop-i.invariant

pub loop-i-preserved : goal.loop-i-preserved
loop-i-preserved g c =
    elim c.match-get.branch [
      | in-Some+in_ok-step w ↦ rw w.it-is (way-more c.args.tape.now c.loop-i.i _ (g.M.CrackerMap.held c.loop-i.it) _ _ w.in-Some.ensures w.in_ok-step.ensures.replayed c.loop-i.invariant)
      | in_default w ↦ let no = w.in_default.ensures in let lt = c.loop-i-test.true in absurd (omega (arith, no, lt))
    ]
