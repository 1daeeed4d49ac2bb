use Rattle.std.proofs.Common.{rules, arith, ◌≡◌, ◌∙◌, ◌<◌, ap, sym, refl, ℕ, ℤ, List, pos, get_or, length, unsigned_abs, w64, take}
use Rattle.std.proofs.Math.Seq.{take-length}
use Rattle.std.proofs.lemmas.Int.{to_z-of_z}
use mir.Val.{SFits}
use Rattle.sw_set.specs.Choice.{chosen, placed}
use Rattle.sw_set.proofs.Replying.Choosing.{chosen_nil}
use Rattle.sw_set.proofs.Replying.Placed.{found_yes, found_no, length-placed}
use Rattle.sw_set.proofs.reply.replies.found_keys.Goals as goal
use Rattle.sw_set.proofs.reply.replies.found_keys.Goals.{then-has+in_ok-push_found, else-has}

pub loop-place-init : goal.loop-place-init
loop-place-init g c = (c.in_ok-found.ensures ∙ sym (chosen_nil c.args.choice.now.bits), refl)

pub loop-place-preserved : goal.loop-place-preserved
loop-place-preserved g c =
    let lt : c.loop-place.place < length c.args.keys.now = omega (arith, c.len-place-end.ensures) in
    elim c.if-has.branch [
      | then-has+in_ok-push_found w ↦
          let fits : SFits w64 w.at.result = search rules in (
            ap (λ v. v.items) w.found-is ∙ found_yes c.args.choice.now.bits c.args.from c.args.keys.now c.loop-place.place lt c.loop-place.found.items w.push_found.new.found.items _ _ (sym c.has.ensures ∙ w.if-has.true) (ap unsigned_abs (to_z-of_z w64 w.at.result fits ∙ w.at.ensures.value ∙ ap (λ (v : List ℤ). get_or v c.loop-place.place (pos 0)) c.loop-place.invariant.1)) refl c.loop-place.invariant.0 w.in_ok-push_found.ensures,
            w.keys-is ∙ w.at.ensures.same ∙ c.loop-place.invariant.1,
          )
      | else-has w ↦ (
        ap (λ v. v.items) w.found-is ∙ found_no c.args.choice.now.bits c.args.from c.args.keys.now c.loop-place.place lt c.loop-place.found.items (sym c.has.ensures ∙ w.if-has.false) c.loop-place.invariant.0,
        w.keys-is ∙ c.loop-place.invariant.1,
      )
    ]

pub returns : goal.returns
returns g c =
    let p = placed c.args.from c.args.keys.now in
    let end : c.loop-place.place ≡ length p = omega (arith, length-placed c.args.from c.args.keys.now, c.len-place-end.ensures) in
    c.loop-place.invariant.0 ∙ ap (λ (k : ℕ). chosen c.args.choice.now.bits (take k p)) end ∙ ap (chosen c.args.choice.now.bits) (take-length p)
