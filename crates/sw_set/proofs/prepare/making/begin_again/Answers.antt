use Rattle.std.proofs.Common.{arith, Ok}
use Rattle.sw_set.proofs.Areas.Refused.{not_held}
use Rattle.sw_set.proofs.Preparing.Trying.{cleared-all, cleared-more, cleared-none, trying-start, trying-at, trying-clear, tried}
use Rattle.sw_set.proofs.prepare.making.begin_again.Goals as goal

pub make-requires-clause-within : goal.make-requires-clause-within
make-requires-clause-within g c κs within = let many = c.loop-turn.invariant.0.same.many in omega (arith, c.requires.within)

pub make-requires-clause-fresh : goal.make-requires-clause-fresh
make-requires-clause-fresh g c κs within = c.loop-turn.invariant.0.fresh

pub loop-turn-init : goal.loop-turn-init
loop-turn-init g c = (trying-start _ _ _ _ c.requires.fresh, cleared-none _)

pub returns-in_default-clause-same : goal.returns-in_default-clause-same
returns-in_default-clause-same g c = (tried _ _ _ _ _ _ _ _ c.requires.within c.loop-turn.invariant.0 c.make.ensures.made).0.same

pub returns-in_default-clause-kept : goal.returns-in_default-clause-kept
returns-in_default-clause-kept g c = (tried _ _ _ _ _ _ _ _ c.requires.within c.loop-turn.invariant.0 c.make.ensures.made).0.kept

pub returns-in_default-clause-ends : goal.returns-in_default-clause-ends
returns-in_default-clause-ends g c = (tried (Ok c.in_default.field-0) _ _ _ _ _ _ _ c.requires.within c.loop-turn.invariant.0 c.in_default.ensures.made).1

pub returns-in_default-leased-clause-same : goal.returns-in_default-leased-clause-same
returns-in_default-leased-clause-same g c = (trying-at _ _ _ _ _ _ _ c.in-Err.ensures.made.0 c.loop-turn.invariant.0).same

pub returns-in_default-leased-clause-kept : goal.returns-in_default-leased-clause-kept
returns-in_default-leased-clause-kept g c = (trying-at _ _ _ _ _ _ _ c.in-Err.ensures.made.0 c.loop-turn.invariant.0).kept

pub loop-turn-preserved : goal.loop-turn-preserved
loop-turn-preserved g c = (
  trying-clear _ _ _ _ _ _ c.in-Some.i c.clear_at.ensures c.in-Some.ensures.0 (λ d. (c.in-Some.ensures.1 d).1) (trying-at _ _ _ _ _ _ _ c.in-Err.ensures.made.0 c.loop-turn.invariant.0),
  cleared-more _ _ _ _ _ _ (let many = c.loop-turn.invariant.0.same.many in omega (arith, c.requires.within)) c.in-Err.ensures.made.0 c.clear_at.ensures c.in-Some.ensures.0 (λ d. (c.in-Some.ensures.1 d).0) c.loop-turn.invariant.1,
)

pub returns-then-not-is_short-clause-kept : goal.returns-then-not-is_short-clause-kept
returns-then-not-is_short-clause-kept g c = (trying-at _ _ _ _ _ _ _ c.in-Err.ensures.made.0 c.loop-turn.invariant.0).kept

pub returns-in_default-leased-clause-lacking : goal.returns-in_default-leased-clause-lacking
returns-in_default-leased-clause-lacking g c = not_held _ _ _ _ _ _ _ c.requires.within c.in-Err.ensures.made.0 c.loop-turn.invariant.0

pub returns-then-not-is_short-clause-lacking : goal.returns-then-not-is_short-clause-lacking
returns-then-not-is_short-clause-lacking g c = not_held _ _ _ _ _ _ _ c.requires.within c.in-Err.ensures.made.0 c.loop-turn.invariant.0

pub unreachable-requires : goal.unreachable-requires
unreachable-requires g c =
    let many = c.loop-turn.invariant.0.same.many in
    let boxes = c.boxes-turn-end.ensures in
    let end = c.loop-turn-test.false in
    cleared-all c.loop-turn._turn _ (omega (arith, many, c.requires.within)) (omega (arith, many, boxes, end)) c.loop-turn.invariant.1
