use Rattle.sw_set.proofs.Areas.Boxes.{get_or_any}
use Rattle.sw_set.specs.Boxed.{LacksOne}
use Rattle.sw_set.specs.Prepared.{IsOfBudget}
use Rattle.sw_set.proofs.Areas.Refused.{handed_on, lacks_one}
use Rattle.sw_set.proofs.Preparing.Trying.{held-so-far, same-area-trans}
use Rattle.sw_set.proofs.prepare.making.make_all.Goals as goal

pub loop-i-preserved : goal.loop-i-preserved
loop-i-preserved g c = (same-area-trans _ _ _ c.loop-i.invariant.0 c.ensure_map.ensures.same, held-so-far _ _ _ _ _ _ (c.loop-i-test.true, get_or_any _ _ _ _ c.loop-i-test.true) c.loop-i.invariant.1 c.in_ok-ensure_map.ensures.ends.0 c.in_ok-ensure_map.ensures.ends.1)

pub returns-in_err-ensure_map-clause-same : goal.returns-in_err-ensure_map-clause-same
returns-in_err-ensure_map-clause-same g c = same-area-trans _ _ _ c.loop-i.invariant.0 c.ensure_map.ensures.same

pub returns-in_err-ensure_map-clause-lacking : goal.returns-in_err-ensure_map-clause-lacking
returns-in_err-ensure_map-clause-lacking g c =
    handed_on (λ e. IsOfBudget e → LacksOne c.args.tails.now c.args.cells c.ensure_map.new.area.boxes) _ _ c.from_residual.ensures.1
    (λ b. lacks_one _ _ _ _ _ c.loop-i-test.true (get_or_any _ _ _ _ c.loop-i-test.true) (c.in_err-ensure_map.ensures.lacking b))
