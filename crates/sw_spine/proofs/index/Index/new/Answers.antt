use Rattle.std.proofs.Common.{rules}
use Rattle.sw_spine.proofs.IndexLemmas.{cells-rise-from_sort}
use Rattle.sw_spine.proofs.index.Index.new.Goals as goal

pub invariant_of-result : goal.invariant_of-result
invariant_of-result c = cells-rise-from_sort _ c.sort_unstable_by_key.ensures.sorted (λ a r q k. search rules)
