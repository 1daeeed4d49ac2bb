use Rattle.std.proofs.Common.{◌≡◌, ◌∙◌, ◌<◌, ◌≤◌, ◌++◌, ◌∷◌, [], ap, get_or, length, refl, List, arith, rules}
use Rattle.std.proofs.lemmas.Option.{slice_get_read}
use Rattle.sw_logs.specs.declared.logged.Logged.{Logged}
use Rattle.sw_keys.specs.Renamings.{IsRenamed}
use Rattle.sw_keys.proofs.RenamingLemmas.{zip_all, zip_step}
use Rattle.sw_keys.proofs.renaming.renamed_calls.Goals as goal

pub loop-place-preserved : goal.loop-place-preserved
loop-place-preserved c =
    let k = c.loop-place.place in
    let calls = c.args.calls.now in
    let old = c.index-calls-place.result in
    let lt : k < length calls = search rules in
    let is : old ≡ get_or calls k old = search rules in
    let grown : c.push_reserved.new.self.items ≡ c.loop-place.new.items ++ c.in-Some.copy ∷ [] = c.push_reserved.ensures.items ∙ ap (λ (l : List Logged). l ++ c.in-Some.copy ∷ []) c.reserve.ensures.items in
    zip_step (IsRenamed c.args.names.now.keys.now) calls k c.loop-place.new.items c.push_reserved.new.self.items old c.in-Some.copy
    (slice_get_read calls (length calls) k old refl lt is) grown (rw c.in-Some.is at c.in_ok-made.ensures) c.loop-place.invariant

pub returns : goal.returns
returns c =
    let past : length c.args.calls.now ≤ c.loop-place.place = omega arith in
    zip_all (IsRenamed c.args.names.now.keys.now) c.args.calls.now c.loop-place.place c.loop-place.new.items past c.loop-place.invariant
