use Rattle.std.proofs.Common.{◌≡◌, ◌∙◌, ◌<◌, ◌≤◌, ◌++◌, ◌∷◌, [], ap, get_or, length, List, arith, rules}
use Rattle.sw_spine.specs.declared.history.Entry.{Entry}
use Rattle.sw_logs.proofs.OrderLemmas.{entries_all, entries_step}
use Rattle.sw_logs.proofs.checking.entries_of.Goals as goal

pub loop-place-preserved : goal.loop-place-preserved
loop-place-preserved c =
    let k = c.loop-place.place-index in
    let places = c.args.places.now in
    let lt : k < length places = omega (arith, c.loop-place-test.true) in
    let call = c.index-calls-number.result in
    let is : call ≡ get_or c.args.calls.now (get_or places k 0) call = search rules in
    let es = c.loop-place.entries.items in
    let grown : c.push_reserved.new.self.items ≡ es ++ c.in_ok-entry.entry ∷ [] = c.push_reserved.ensures.items ∙ ap (λ (l : List Entry). l ++ c.in_ok-entry.entry ∷ []) c.reserve.ensures.items in
    entries_step c.args.calls.now places k es c.push_reserved.new.self.items call c.in_ok-entry.entry c.requires lt is c.in_ok-entry.ensures grown c.loop-place.invariant

pub returns : goal.returns
returns c =
    let past : length c.args.places.now ≤ c.loop-place.place-index = omega arith in
    entries_all c.args.calls.now c.args.places.now c.loop-place.place-index c.loop-place.entries.items past c.loop-place.invariant
