use Rattle.std.proofs.Common.{◌∙◌, ap, subst, map, ℕ, ℤ, List}
use Rattle.std.specs.Prelude.{IsPermutation}
use Rattle.std.proofs.lemmas.List.Sorted.{IsNonDecreasingBy-from_sort}
use Rattle.sw_spine.proofs.IndexLemmas.{places-sorted}
use Rattle.sw_spine.proofs.index.Index.places.Goals as goal

pub returns : goal.returns
returns c =
    let found = c.sort_unstable.new.self.items in
    places-sorted c.args.self.now c.args.cond.lower c.args.cond.upper found
    (subst (λ (l : List ℕ). IsPermutation l found) (c.in-Ok.ensures ∙ ap (map (λ (p : ℤ × ℕ). p.1)) c.between-between.ensures) c.sort_unstable.ensures.permutation)
    (IsNonDecreasingBy-from_sort (λ (x : ℕ). x) found c.sort_unstable.ensures.sorted)
