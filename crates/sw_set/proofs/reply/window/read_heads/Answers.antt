use Rattle.std.proofs.Common.{rules, arith, w64, ◌≡◌, ◌∙◌, ◌<◌, ℤ, pos, length, length-set}
use Rattle.std.proofs.lemmas.Int.{to_z-of_z}
use mir.Val.{SFits}
use Rattle.sw_kernel.specs.Arrangement.{joined}
use Rattle.sw_map.proofs.Parts.{one-more}
use Rattle.sw_set.proofs.reply.window.read_heads.Goals as goal

pub loop-at-preserved : goal.loop-at-preserved
loop-at-preserved g c =
    let fits : SFits w64 c.head_at.result = search rules in
    let long : length c.loop-at.part ≡ length c.args.part.now = c.loop-at.invariant.0 in
    let lt : c.loop-at.at < length c.loop-at.part = search rules in
    let within = c.requires in
    (length-set _ _ _ ∙ long, one-more (λ (p : ℤ × ℤ). p.0) (joined (g.M.CrackerMap.held c.args.map.now).pairs) (pos 0, pos 0) c.loop-at.part c.args.place c.loop-at.at _ lt (omega (arith, within, long)) (to_z-of_z w64 c.head_at.result fits ∙ c.head_at.ensures) c.loop-at.invariant.1)
