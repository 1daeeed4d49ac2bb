use Rattle.std.proofs.Common.{arith, ◌∙◌}
use Rattle.sw_set.proofs.Merging.Removals.{none-waits}
use Rattle.sw_set.proofs.area.Area.merge.Goals as goal

pub returns-then-removals_in-gt-MOST_REMOVALS_MERGED-clause-nothing :
    goal.returns-then-removals_in-gt-MOST_REMOVALS_MERGED-clause-nothing
returns-then-removals_in-gt-MOST_REMOVALS_MERGED-clause-nothing g c = λ none.
    let many = c.removals_in.ensures in
    let zero = none-waits c.waiting.result.now (c.waiting.ensures ∙ none) in
    let more = c.if-removals_in-gt-MOST_REMOVALS_MERGED.true in
    absurd (omega (arith, many, zero, more))
