use Rattle.std.proofs.Common.{◌<◌, All, List, None, arith, subst}
use Rattle.std.proofs.lemmas.List.{take_all}
use Rattle.std.proofs.lemmas.List.Elements.{All-more}
use Rattle.sw_query.specs.declared.query.Cond.{Cond}
use Rattle.test_sessions.proofs.below.conds_below.Goals as goal

pub loop-cond-preserved : goal.loop-cond-preserved
loop-cond-preserved c =
    let none : Cond = record { attr = 0; lower = None; upper = None } in
    All-more (λ (d : Cond). d.attr < c.args.columns) c.args.conds.now c.loop-cond.cond-index none c.loop-cond-test.true c.loop-cond.invariant c.if-cond-columns.false

pub returns : goal.returns
returns c = λ t. subst (λ (l : List Cond). All (λ (d : Cond). d.attr < c.args.columns) l) (take_all c.loop-cond.cond-index c.args.conds.now (omega arith)) c.loop-cond.invariant
