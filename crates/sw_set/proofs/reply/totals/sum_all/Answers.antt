use Rattle.std.proofs.Common.{rules, arith, ℕ, ℤ, List, ◌≡◌, ◌∙◌, ◌+◌, ◌-◌, ◌≤◌, ◌+ℤ◌, ap, sym, subst, length, slice_range}
use Rattle.std.proofs.lemmas.Int.{to_z-of_z}
use Rattle.std.proofs.lemmas.Grind.{common_steps}
use mir.Syntax.{w128}
use mir.Val.{of_z, to_z}
use Rattle.sw_query.specs.Scan.{total}
use Rattle.sw_set.specs.Choice.{IsSumOf}
use Rattle.sw_set.proofs.Replying.Blocks.{block-read, sum-of-both, total-block}
use Rattle.sw_set.proofs.Replying.Told.{range-long}
use Rattle.sw_set.proofs.reply.totals.sum_all.Goals as goal

pub loop-place-preserved : goal.loop-place-preserved
loop-place-preserved g c =
    let xs : List ℤ = c.args.window.now in
    let p = c.loop-place.place in
    let m = c.min-many.result in
    let within = c.loop-place.invariant.0 in
    let few : m ≤ 256 = search rules in
    let many : p + m ≤ length xs = omega (arith, within, c.min-many.ensures, c.len-in-loop-place.ensures) in
    let read = block-read xs c.loop-place.block c.read.new.part p m (omega (arith, few, c.min-many.array_long)) many c.read.ensures in
    let sum : c.sum_of-sum.result ≡ total (slice_range xs p (p + m)) = c.sum_of-sum.ensures.total ∙ ap total read in
    let s = to_z w128 c.loop-place.sum-bits in
    let z = c.sum_of-sum.result in
    let long = ap length read ∙ range-long xs p (p + m) (omega arith) many in
    let those : IsSumOf m z = subst (λ (n : ℕ). IsSumOf n z) (let back : p + m - p ≡ m = omega arith in long ∙ back) c.sum_of-sum.ensures.within in
    let so_far : IsSumOf p s = c.loop-place.invariant.2 in
    let sums : IsSumOf (p + m) (s +ℤ z) = sum-of-both p m s z so_far those in
    let is : to_z w128 (of_z w128 (s +ℤ to_z w128 (of_z w128 z))) ≡ s +ℤ z = grind (arith, common_steps, to_z-of_z, sums.0, sums.1) in
    (many, is ∙ total-block xs p m s z c.loop-place.invariant.1 sum, subst (IsSumOf (p + m)) (sym is) sums)
