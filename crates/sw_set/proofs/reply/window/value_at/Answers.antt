use Rattle.std.proofs.Common.{◌≡◌, ◌∙◌, ℤ, pos, sym, subst, get_or, rules, w64}
use Rattle.std.proofs.lemmas.List.{get_or-map}
use Rattle.std.proofs.lemmas.Int.{to_z-of_z}
use mir.Val.{SFits}
use Rattle.sw_kernel.specs.Arrangement.{joined}
use Rattle.sw_set.specs.Choice.{side_in}
use Rattle.sw_set.specs.declared.reply.window.Side.{Side}
use Rattle.sw_set.proofs.reply.window.value_at.Goals as goal

pub returns-in-Head : goal.returns-in-Head
returns-in-Head g c =
    let m = g.M.CrackerMap.held c.args.map.now in
    let fits : SFits w64 c.head_at.result = search rules in
    to_z-of_z w64 c.head_at.result fits
    ∙ subst (λ (s : Side). c.head_at.result ≡ get_or (side_in s m) c.args.place (pos 0)) (sym c.in-Head.is)
    (c.head_at.ensures ∙ sym (get_or-map (λ (p : ℤ × ℤ). p.0) (joined m.pairs) c.args.place (pos 0, pos 0) (pos 0) c.requires))

pub returns-in-Tail : goal.returns-in-Tail
returns-in-Tail g c =
    let m = g.M.CrackerMap.held c.args.map.now in
    let fits : SFits w64 c.tail_at.result = search rules in
    to_z-of_z w64 c.tail_at.result fits
    ∙ subst (λ (s : Side). c.tail_at.result ≡ get_or (side_in s m) c.args.place (pos 0)) (sym c.in-Tail.is)
    (c.tail_at.ensures ∙ sym (get_or-map (λ (p : ℤ × ℤ). p.1) (joined m.pairs) c.args.place (pos 0, pos 0) (pos 0) c.requires))
