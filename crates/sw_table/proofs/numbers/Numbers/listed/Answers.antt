use Rattle.std.proofs.Common.{◌≡◌, ◌<◌, ◌+◌, ◌∙◌, ◌++◌, ◌∷◌, [], ℕ, ap, sym, List, length, take, arith}
use Rattle.std.proofs.lemmas.List.{take_more}
use Rattle.sw_table.proofs.numbers.Numbers.listed.Goals as goal

pub loop-place-preserved : goal.loop-place-preserved
loop-place-preserved c =
    let ks = c.args.self.now in let i = c.loop-place.place in
    let lt : i < length ks = omega (arith, c.loop-place-test.true, c.len-place-end.ensures) in
    let more : take i ks ++ c.at.result ∷ [] ≡ take (i + 1) ks = ap (λ (k : ℕ). take i ks ++ k ∷ []) (c.at.ensures 0) ∙ sym (take_more ks i 0 lt) in
    c.in_ok-push.ensures.items ∙ ap (λ (v : List ℕ). v ++ c.at.result ∷ []) c.loop-place.invariant ∙ more
