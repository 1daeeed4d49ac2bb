use Rattle.std.proofs.Common.{◌∙◌, ◌++◌, ◌∷◌, ◌<◌, [], ap, sym, drop, length, length-drop, take, arith}
use Rattle.std.proofs.lemmas.List.{append_assoc, get_or-drop, take_more}
use Rattle.sw_table.proofs.keys.Keys.push_each.Goals as goal

pub loop-done-preserved : goal.loop-done-preserved
loop-done-preserved c =
    let i = c.loop-done.done in let s = c.args.start in let ks = c.args.keys.now in
    let lt : i < length (drop s ks) = omega (arith, c.loop-done-test.true, c.requires, length-drop s ks) in
    c.in_default.ensures.ok
    ∙ ap (λ v. v ++ c.at.result ∷ []) c.loop-done.invariant
    ∙ append_assoc c.args.self.now (take i (drop s ks)) (c.at.result ∷ [])
    ∙ ap (λ k. c.args.self.now ++ (take i (drop s ks) ++ k ∷ [])) (c.at.ensures 0 ∙ sym (get_or-drop s ks i 0))
    ∙ ap (λ v. c.args.self.now ++ v) (sym (take_more (drop s ks) i 0 lt))
