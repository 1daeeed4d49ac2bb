use Rattle.std.proofs.Common.{◌≡◌, ◌<◌, ℕ, Some, below_more, get_or, length, arith}
use Rattle.std.specs.BTreeMap as tree
use Rattle.std.specs.Ordering.{nat_cmp}
use Rattle.sw_keys.proofs.RenamingLemmas.{once_where}
use Rattle.sw_keys.proofs.renaming.are_once.Goals as goal

pub loop-place-init : goal.loop-place-init
loop-place-init c = λ p lp within. absurd (omega arith)

pub loop-place-preserved : goal.loop-place-preserved
loop-place-preserved c =
    let k = c.loop-place.place in
    let names = c.args.names.now in
    let here : tree.get nat_cmp c.args.places.now (get_or names k 0) ≡ Some k = c.has_place-found.ensures c.if-not-found.false in
    λ p lp within. below_more (λ (p : ℕ). p < length names → tree.get nat_cmp c.args.places.now (get_or names p 0) ≡ Some p) k (λ p lp within. c.loop-place.invariant p lp within) (λ within. here) p lp within

pub returns : goal.returns
returns c = λ told. once_where c.args.names.now (λ n. tree.get nat_cmp c.args.places.now n) c.loop-place.place (omega arith) c.loop-place.invariant
