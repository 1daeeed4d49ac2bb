use Rattle.std.proofs.Common.{rules, arith, w64, ◌≡◌, ◌∙◌, ◌<◌, ℕ, ℤ, Bool, List, ap, pos, get_or, length, length-set, false}
use Rattle.std.proofs.lemmas.Int.{to_z-of_z}
use mir.Val.{SFits}
use Rattle.sw_query.specs.Bounds.{is_within}
use Rattle.sw_set.proofs.Replying.Refined.{refined-first, refined-rest}
use Rattle.sw_set.proofs.reply.choice.refine_by.Goals as goal

pub loop-place-preserved : goal.loop-place-preserved
loop-place-preserved g c =
    let fits : SFits w64 c.at-value.result = search rules in
    let inv = c.loop-place.invariant in
    let long : length c.loop-place.bits ≡ length c.args.bits.now = inv.1 in
    let lt : c.loop-place.place < length c.loop-place.bits = omega (arith, long, c.len-place-end.ensures) in
    let test = λ (k : ℕ). is_within c.args.cond.now.lower c.args.cond.now.upper (get_or c.args.window.now k (pos 0)) in
    let is = c.is_within.ensures ∙ ap (λ (z : ℤ). is_within c.args.cond.now.lower c.args.cond.now.upper z) (to_z-of_z w64 c.at-value.result fits ∙ c.at-value.ensures.value ∙ ap (λ (v : List ℤ). get_or v c.loop-place.place (pos 0)) inv.0) in (
      c.at-value.ensures.same ∙ inv.0,
      ap length c.refine.ensures ∙ length-set c.loop-place.bits c.loop-place.place _ ∙ long,
      λ k l. ap (λ (v : List Bool). get_or v k false) c.refine.ensures ∙ refined-first c.args.bits.now c.loop-place.bits c.loop-place.place c.is_within.result test is lt inv.2 inv.3 k l,
      λ k l. ap (λ (v : List Bool). get_or v k false) c.refine.ensures ∙ refined-rest c.args.bits.now c.loop-place.bits c.loop-place.place c.is_within.result test is lt inv.2 inv.3 k l,
    )
