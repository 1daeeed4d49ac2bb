use Rattle.std.proofs.Common.{rules, subst, ℕ}
use Rattle.sw_kernel.specs.Tapes.{is_marked}
use Rattle.sw_tape.specs.Bounds.{IsNearestAbove, IsNearestBelow}
use Rattle.sw_map.specs.Held.{pairs_in}
use Rattle.sw_set.specs.Boxed.{IsFoundAt}
use Rattle.sw_set.proofs.Merging.Positions.{key-at, key-between, lower-place, upper-place, upper-within}
use Rattle.sw_set.proofs.merge.position.place_of_row.Goals as goal

pub place_of_bound-from-requires-after_bounds : goal.place_of_bound-from-requires-after_bounds
place_of_bound-from-requires-after_bounds g c κs within =
    let m = g.M.CrackerMap.held c.args.it.now in
    let below : IsNearestBelow (λ b. is_marked b c.args.tape.now) c.args.value c.around-lower.result.0 = search rules in
    lower-place m.head c.args.tape.now m c.args.value c.around-lower.result.0 (record { aligned = c.requires.aligned; at_end = c.requires.ended }) below

pub place_of_bound-upto-requires-after_bounds : goal.place_of_bound-upto-requires-after_bounds
place_of_bound-upto-requires-after_bounds g c κs within =
    let m = g.M.CrackerMap.held c.args.it.now in
    let above : IsNearestAbove (λ b. is_marked b c.args.tape.now) c.args.value c.around-lower.result.1 = search rules in
    upper-place m.head c.args.tape.now m c.args.value c.around-lower.result.1 (record { aligned = c.requires.aligned; at_end = c.requires.ended }) above

pub find_key-requires-clause-within : goal.find_key-requires-clause-within
find_key-requires-clause-within g c κs within =
    let m = g.M.CrackerMap.held c.args.it.now in
    let below : IsNearestBelow (λ b. is_marked b c.args.tape.now) c.args.value c.around-lower.result.0 = search rules in
    let above : IsNearestAbove (λ b. is_marked b c.args.tape.now) c.args.value c.around-lower.result.1 = search rules in
    let lo : IsFoundAt c.around-lower.result.0 0 m c.place_of_bound-from.result = c.place_of_bound-from.ensures in
    let hi : IsFoundAt c.around-lower.result.1 (pairs_in m) m c.place_of_bound-upto.result = subst (λ (n : ℕ). IsFoundAt c.around-lower.result.1 n m c.place_of_bound-upto.result) c.len.ensures c.place_of_bound-upto.ensures in
    upper-within m.head c.args.tape.now m c.args.value c.around-lower.result.0 c.around-lower.result.1 c.place_of_bound-from.result c.place_of_bound-upto.result c.requires.tape (record { aligned = c.requires.aligned; at_end = c.requires.ended }) below above lo hi

pub find_key-requires-clause-there : goal.find_key-requires-clause-there
find_key-requires-clause-there g c κs within =
    let m = g.M.CrackerMap.held c.args.it.now in
    let below : IsNearestBelow (λ b. is_marked b c.args.tape.now) c.args.value c.around-lower.result.0 = search rules in
    let above : IsNearestAbove (λ b. is_marked b c.args.tape.now) c.args.value c.around-lower.result.1 = search rules in
    let lo : IsFoundAt c.around-lower.result.0 0 m c.place_of_bound-from.result = c.place_of_bound-from.ensures in
    let hi : IsFoundAt c.around-lower.result.1 (pairs_in m) m c.place_of_bound-upto.result = subst (λ (n : ℕ). IsFoundAt c.around-lower.result.1 n m c.place_of_bound-upto.result) c.len.ensures c.place_of_bound-upto.ensures in
    key-between m.head c.args.tape.now m c.args.value c.args.key c.around-lower.result.0 c.around-lower.result.1 c.place_of_bound-from.result c.place_of_bound-upto.result c.requires.tape (record { aligned = c.requires.aligned; at_end = c.requires.ended }) c.requires.tail c.requires.rise c.requires.live below above lo hi

pub returns-clause-within : goal.returns-clause-within
returns-clause-within g c =
    let m = g.M.CrackerMap.held c.args.it.now in
    (key-at m.head c.args.tape.now m c.args.key c.find_key.result (record { aligned = c.requires.aligned; at_end = c.requires.ended }) c.requires.tail c.find_key.ensures.within c.find_key.ensures.found).0

pub returns-clause-key : goal.returns-clause-key
returns-clause-key g c =
    let m = g.M.CrackerMap.held c.args.it.now in
    (key-at m.head c.args.tape.now m c.args.key c.find_key.result (record { aligned = c.requires.aligned; at_end = c.requires.ended }) c.requires.tail c.find_key.ensures.within c.find_key.ensures.found).1
