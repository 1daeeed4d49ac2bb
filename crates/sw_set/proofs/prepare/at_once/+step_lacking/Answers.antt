use Rattle.std.proofs.Common.{arith}
use Rattle.sw_set.specs.Aligned.{IsSameMap}
use Rattle.sw_set.proofs.Areas.Swaps.{swapped-back}
use Rattle.sw_set.proofs.prepare.at_once.+step_lacking.Goals as goal

pub returns-in-Some-clause-same : goal.returns-in-Some-clause-same
returns-in-Some-clause-same g t c =
    let low = c.in-Some.ensures.0 in
    let at = c.in-Some.ensures.1 in
    let done = c.requires.done in
    swapped-back (λ x y. IsSameMap (g.M.CrackerMap.held x) (g.M.CrackerMap.held y)) _ _ _ _ c.args.done c.in-Some.at c.swap.ensures.len (omega (arith, low, at, done)) at c.swap.ensures.by_index c.step_lacking.ensures.same c.swap-in-Some.ensures.by_index
