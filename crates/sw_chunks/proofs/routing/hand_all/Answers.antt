use Rattle.std.proofs.Common.{rules, ◌≡◌, ◌<◌, ℕ, length, get_or, subst, arith}
use Rattle.sw_chunks.proofs.Sending.{next-may-at, next-room, sent-next-at}
use Rattle.sw_chunks.proofs.routing.hand_all.Goals as goal

pub hand_one-requires-clause-room : goal.hand_one-requires-clause-room
hand_one-requires-clause-room g c = λ κs far.
    let lt : c.loop-i.i < length c.args.updates.now = c.loop-i-test.true in
    let many : length c.args.places.now ≡ length c.args.updates.now = c.requires.many in
    let at : get_or c.args.places.now c.loop-i.i 0 ≡ c.from-at.result = search rules in
    let here : c.loop-i.i < length c.args.places.now = omega (arith, lt, many) in
    let within : c.from-at.result < length c.args.areas.now = subst (λ (n : ℕ). n < length c.args.areas.now) at (c.requires.within c.loop-i.i 0 here) in
    next-room c.loop-i.i c.from-at.result c.args.places.now c.args.updates.now c.args.areas.now c.loop-i.areas c.index-areas-at.result here at within c.loop-i.invariant

pub hand_one-requires-clause-may : goal.hand_one-requires-clause-may
hand_one-requires-clause-may g c = λ κs far.
    let lt : c.loop-i.i < length c.args.updates.now = c.loop-i-test.true in
    let many : length c.args.places.now ≡ length c.args.updates.now = c.requires.many in
    let at : get_or c.args.places.now c.loop-i.i 0 ≡ c.from-at.result = search rules in
    let here : c.loop-i.i < length c.args.places.now = omega (arith, lt, many) in
    let within : c.from-at.result < length c.args.areas.now = subst (λ (n : ℕ). n < length c.args.areas.now) at (c.requires.within c.loop-i.i 0 here) in
    next-may-at c.loop-i.i c.from-at.result c.args.places.now c.args.updates.now _ c.args.areas.now c.loop-i.areas c.index-areas-at.result lt many at within c.loop-i.invariant

pub loop-i-preserved : goal.loop-i-preserved
loop-i-preserved g c =
    let lt : c.loop-i.i < length c.args.updates.now = c.loop-i-test.true in
    let many : length c.args.places.now ≡ length c.args.updates.now = c.requires.many in
    let at : get_or c.args.places.now c.loop-i.i 0 ≡ c.from-at.result = search rules in
    let here : c.loop-i.i < length c.args.places.now = omega (arith, lt, many) in
    let within : c.from-at.result < length c.args.areas.now = subst (λ (n : ℕ). n < length c.args.areas.now) at (c.requires.within c.loop-i.i 0 here) in
    sent-next-at c.loop-i.i c.from-at.result c.args.places.now c.args.updates.now _ c.args.areas.now c.loop-i.areas c.index-areas-at.result c.hand_one.new.area lt many at within c.loop-i.invariant c.hand_one.ensures.area c.hand_one.ensures.room
