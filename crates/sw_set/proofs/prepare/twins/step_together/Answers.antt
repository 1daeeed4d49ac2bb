use Rattle.std.proofs.Common.{arith}
use Rattle.sw_set.proofs.prepare.twins.step_together.Goals as goal
use Rattle.sw_set.proofs.prepare.twins.step_together.Goals.{in-Some+else-not-twin_took, in_default}
use Rattle.sw_set.proofs.Areas.Boxes.{step-keys}
use Rattle.sw_set.proofs.Areas.Twins.{either-way, heads-on-the-way, may-step, twins-more}

pub step_two-took-requires-clause-may : goal.step_two-took-requires-clause-may
step_two-took-requires-clause-may g c κs within =
    let tape = c.len-i-end.ensures.tape in
    let most = c.len-i-end.ensures.most in
    let count = c.len-i-end.ensures.count in (
      may-step c.args.tape.now c.loop-i.i _ _ _ tape (omega (arith, most, count)) c.in-Some.ensures c.requires.room c.loop-i.invariant.it,
      may-step c.args.tape.now c.loop-i.i _ _ _ tape (omega (arith, most, count)) c.in-Some.ensures c.requires.twin_room c.loop-i.invariant.twin,
    )

pub step_two-took-requires-clause-keys : goal.step_two-took-requires-clause-keys
step_two-took-requires-clause-keys g c κs within = step-keys c.args.tape.now c.loop-i.i _ c.requires.keys c.in-Some.ensures

pub step_two-took-requires-clause-same : goal.step_two-took-requires-clause-same
step_two-took-requires-clause-same g c κs within = heads-on-the-way _ _ _ _ _ _ _ c.loop-i.invariant

pub returns-then-not-twin_took-clause-aligned : goal.returns-then-not-twin_took-clause-aligned
returns-then-not-twin_took-clause-aligned g c = either-way _ c.args.tape.now c.loop-i.i _ _ _ _ _ c.in-Some.ensures c.loop-i.invariant.head c.step_two-took.ensures.stepped c.loop-i.invariant.it

pub returns-then-not-twin_took-clause-twin_aligned : goal.returns-then-not-twin_took-clause-twin_aligned
returns-then-not-twin_took-clause-twin_aligned g c = either-way _ c.args.tape.now c.loop-i.i _ _ _ _ _ c.in-Some.ensures c.loop-i.invariant.twin_head c.step_two-took.ensures.twin_stepped c.loop-i.invariant.twin

pub loop-i-preserved : goal.loop-i-preserved
loop-i-preserved g c =
    elim c.match-get.branch [
      | in-Some+else-not-twin_took w ↦ rw w.it-is (rw w.twin-is (twins-more _ c.args.tape.now c.loop-i.i _ _ (g.M.CrackerMap.held c.loop-i.it) (g.M.CrackerMap.held c.loop-i.twin) _ _ _ _ _ w.in-Some.ensures w.if-not-twin_took.false.0 w.if-not-twin_took.false.1 w.step_two-took.ensures.stepped w.step_two-took.ensures.twin_stepped c.loop-i.invariant))
      | in_default w ↦ let no = w.in_default.ensures in let lt = c.loop-i-test.true in absurd (omega (arith, no, lt))
    ]
