use Rattle.std.proofs.Common.{◌∙◌, ◌+◌, ◌++◌, ◌∷◌, ◌<◌, [], ap, sym, ℕ, List, length, map, take, arith}
use Rattle.std.proofs.lemmas.List.{append_assoc, map_push, take_more}
use Rattle.sw_table.proofs.keys.Keys.push_behind.Goals as goal

pub loop-place-preserved : goal.loop-place-preserved
loop-place-preserved c =
    let i = c.loop-place.place in let ks = c.args.keys.now in let own = c.args.self.now in let m = length own in
    let lt : i < length ks = omega (arith, c.loop-place-test.true, c.len-more.ensures) in
    c.in_default.ensures.ok
    ∙ ap (λ (v : List ℕ). v ++ (c.len-before.result + c.at.result) ∷ []) c.loop-place.invariant
    ∙ append_assoc own (map (λ (k : ℕ). m + k) (take i ks)) ((c.len-before.result + c.at.result) ∷ [])
    ∙ ap (λ (k : ℕ). own ++ (map (λ (k : ℕ). m + k) (take i ks) ++ (k + c.at.result) ∷ [])) c.len-before.ensures
    ∙ ap (λ (k : ℕ). own ++ (map (λ (k : ℕ). m + k) (take i ks) ++ (m + k) ∷ [])) (c.at.ensures 0)
    ∙ ap (λ (v : List ℕ). own ++ v) (sym (ap (map (λ (k : ℕ). m + k)) (take_more ks i 0 lt) ∙ map_push (λ (k : ℕ). m + k) (take i ks) _))
