use Rattle.std.proofs.Common.{rules, arith, ◌≡◌, ◌≤◌, ◌++◌, List, drop, take, length, subst, ◌∙◌, ap}
use Rattle.std.proofs.lemmas.List.{length-take}
use Rattle.std.specs.List.{zip}
use Rattle.sw_query.specs.declared.query.Call.{Call}
use Rattle.sw_engine.specs.Own.{LeavesAnswered}
use Rattle.sw_cli.proofs.Together.{made_together, zip_firsts}
use Rattle.sw_cli.proofs.serving.Job.make_together.Goals as goal

pub invariant_of-self : goal.invariant_of-self
invariant_of-self g c =
    let i = c.self.invariant in
    let cs = c.self.inside.calls.now in
    let ts = c.self.inside.told.items in
    let n = c.self.inside.together in
    let rs = c.select_together-replies.result.items in
    let old = c.self.inside.session in
    let new = c.select_together-replies.new.self in
    let told = c.select_together-replies.ensures in
    let firsts : c.next_calls-asked.result.now ≡ take n (drop (length ts) cs) = search rules in
    let few : length rs ≤ length (take n (drop (length ts) cs)) = subst (λ (l : List Call). length rs ≤ length l) firsts told.few in
    let few_of_all : length rs ≤ length (drop (length ts) cs) = omega (arith, few, length-take n (drop (length ts) cs)) in
    let same = ap (λ (l : List Call). zip l rs) firsts ∙ zip_firsts n (drop (length ts) cs) rs few in
    let mine : new.1 ≡ old.1 ++ zip (drop (length ts) cs) rs = told.mine ∙ ap (λ l. old.1 ++ l) same in
    let own : LeavesAnswered (zip (drop (length ts) cs) rs) old new = subst (λ l. LeavesAnswered l old new) same told.own in
    (rw c.add_replies.ensures.added (made_together cs ts rs old new i.0 few_of_all mine own), search rules, i.2)
