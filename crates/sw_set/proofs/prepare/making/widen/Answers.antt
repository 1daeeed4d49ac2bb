use Rattle.sw_set.proofs.Areas.Grown.{grown-held, grown-trying}
use Rattle.sw_set.proofs.Areas.Refused.{not_grown}
use Rattle.sw_set.proofs.Preparing.Trying.{kept-trans}
use Rattle.sw_set.proofs.prepare.making.widen.Goals as goal

pub returns-in-Ok-true-clause-kept : goal.returns-in-Ok-true-clause-kept
returns-in-Ok-true-clause-kept g c = (grown-trying _ _ _ _ _ _ _ c.requires.fresh c.grow_at.ensures.grown).kept

pub returns-in-Ok-true-clause-ends : goal.returns-in-Ok-true-clause-ends
returns-in-Ok-true-clause-ends g c = grown-held _ _ _ _ _ _ c.in-Ok-true.field-0-test c.requires.within c.requires.begun c.requires.tail c.in-Ok-true.ensures.grown

pub begin_again-requires-clause-fresh : goal.begin_again-requires-clause-fresh
begin_again-requires-clause-fresh g c κs within = (grown-trying _ _ _ c.args.tails.now _ _ _ c.requires.fresh c.grow_at.ensures.grown).fresh

pub returns-clause-kept : goal.returns-clause-kept
returns-clause-kept g c =
    let now = grown-trying _ _ _ _ _ _ _ c.requires.fresh c.grow_at.ensures.grown in
    kept-trans _ _ _ _ _ now.same.many now.kept c.begin_again.ensures.kept

pub returns-in-Err-Contended-clause-kept : goal.returns-in-Err-Contended-clause-kept
returns-in-Err-Contended-clause-kept g c = (grown-trying _ _ _ _ _ _ _ c.requires.fresh c.grow_at.ensures.grown).kept

pub returns-in-Err-Contended-clause-lacking : goal.returns-in-Err-Contended-clause-lacking
returns-in-Err-Contended-clause-lacking g c = not_grown _ _ _ _ _ _ _ c.requires.within c.requires.fresh c.in-Err-Contended.ensures.grown
