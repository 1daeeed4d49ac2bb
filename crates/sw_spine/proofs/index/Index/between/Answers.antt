use Rattle.std.proofs.Common.{◌≡◌, ◌≤◌, ◌-◌, ◌∙◌, ap, sym, subst, rules, take, drop, filter, length, ℕ, ℤ, List, true, false, arith}
use Rattle.std.specs.List.Sorted.{IsPartitionPoint}
use Rattle.std.proofs.lemmas.List.Sorted.{IsPartitionPoint-from_clause}
use Rattle.sw_spine.specs.Indexes.{CellsRise}
use Rattle.sw_spine.proofs.IndexLemmas.{below, below-parted, between-is, cell_within, under, under-parted}
use Rattle.sw_spine.proofs.index.Index.between.Goals as goal

pub returns : goal.returns
returns c =
    let ps = c.self.inside.pairs.items in let low = c.args.lower in let high = c.args.upper in
    let start = c.partition_point-start.result in let end = c.partition_point-end.result in let last = c.max.result in
    let one : c.deref.result.now ≡ ps = c.deref.ensures.value in
    let two : c.deref-2.result.now ≡ ps = c.deref-2.ensures.value in
    let three : c.deref-3.result.now ≡ ps = c.deref-3.ensures.value in
    let first = IsPartitionPoint-from_clause (under low) _ _ c.partition_point-start.ensures.partitioned (under-parted low _ (subst CellsRise (sym one) c.self.invariant)) (λ a r q k. search rules) in
    let second = IsPartitionPoint-from_clause (below high) _ _ c.partition_point-end.ensures.partitioned (below-parted high _ (subst CellsRise (sym two) c.self.invariant)) (λ a r q k. search rules) in
    let s : start ≤ length ps = omega (arith, c.partition_point-start.ensures.bound, ap (λ (l : List (ℤ × ℕ)). length l) one) in
    let e : end ≤ length ps = omega (arith, c.partition_point-end.ensures.bound, ap (λ (l : List (ℤ × ℕ)). length l) two) in
    ap (λ (l : List (ℤ × ℕ)). take (last - start) (drop start l)) three
    ∙ between-is low high ps start end last s e (subst (λ (l : List (ℤ × ℕ)). IsPartitionPoint (λ p. under low p ≡ true) (λ p. under low p ≡ false) l start) one first) (subst (λ (l : List (ℤ × ℕ)). IsPartitionPoint (λ p. below high p ≡ true) (λ p. below high p ≡ false) l end) two second) (omega (arith, c.max.ensures)) (omega (arith, c.max.ensures)) (λ more. omega (arith, more, c.max.ensures))
    ∙ ap (λ (l : List (ℤ × ℕ)). filter (cell_within low high) l) c.self.view_is
