use Rattle.std.proofs.Common.{rules, arith, ℤ, List, ◌≡◌, ◌∙◌, ◌+◌, ◌*◌, ◌^◌, ◌<◌, ◌+ℤ◌, ◌≤ℤ◌, ap, sym, subst, cond, pos, neg_ℤ, get_or, length, w64}
use Rattle.std.proofs.lemmas.Int.{ints, to_z-of_z}
use Rattle.std.proofs.lemmas.Grind.{common_steps}
use mir.Syntax.{w128}
use mir.Val.{SFits, of_z, to_z}
use Rattle.sw_set.proofs.Replying.Choosing.{total_masked}
use Rattle.sw_set.proofs.reply.totals.sum_chosen.Goals as goal

pub loop-place-preserved : goal.loop-place-preserved
loop-place-preserved g c =
    let xs : List ℤ = c.args.window.now in
    let p = c.loop-place.place in
    let inv = c.loop-place.invariant in
    let lt : p < length xs = omega (arith, c.len-place-end.ensures) in
    let s = to_z w128 c.loop-place.sum-bits in
    let z = c.at-value.result in
    let v = c.from-sum.result in
    let fits : SFits w64 z = search rules in
    let few : SFits w64 c.value_if.result = search rules in
    let at : z ≡ get_or xs p (pos 0) = c.at-value.ensures.value ∙ ap (λ (l : List ℤ). get_or l p (pos 0)) inv.3 in
    let same : v ≡ c.value_if.result = c.from-sum.ensures ∙ to_z-of_z w64 c.value_if.result few in
    let masked : v ≡ cond c.has.result z (pos 0) = same ∙ c.value_if.ensures ∙ ap (λ (y : ℤ). cond c.has.result y (pos 0)) (to_z-of_z w64 z fits) in
    let sum = total_masked c.args.choice.now.bits xs p lt s z v c.has.result (sym c.has.ensures) masked at inv.0 in
    let low : neg_ℤ (pos (2 ^ 63 * (p + 1))) ≤ℤ (s +ℤ v) = omega (arith, ints, same, inv.1, c.value_if.type_inv) in
    let high : (s +ℤ v) ≤ℤ pos (2 ^ 63 * (p + 1)) = omega (arith, ints, same, inv.2, c.value_if.type_inv) in
    let is : to_z w128 (of_z w128 (s +ℤ to_z w128 (of_z w128 v))) ≡ s +ℤ v = grind (arith, common_steps, to_z-of_z, low, high) in
    (is ∙ sum, subst (λ (y : ℤ). neg_ℤ (pos (2 ^ 63 * (p + 1))) ≤ℤ y) (sym is) low, subst (λ (y : ℤ). y ≤ℤ pos (2 ^ 63 * (p + 1))) (sym is) high, c.at-value.ensures.same ∙ inv.3)
