use Rattle.std.proofs.Common.{◌≡◌, ◌<◌, ◌≤◌, get_or, length, arith, rules}
use Rattle.sw_logs.proofs.OrderLemmas.{in_order_all, in_order_none, in_order_step}
use Rattle.sw_logs.proofs.checking.keeps_sessions.Goals as goal

pub loop-place-init : goal.loop-place-init
loop-place-init c = in_order_none c.args.calls.now c.args.places.now c.in_ok-from.from.items

pub loop-place-preserved : goal.loop-place-preserved
loop-place-preserved c =
    let k = c.loop-place.place-index in
    let places = c.args.places.now in
    let lt : k < length places = omega (arith, c.loop-place-test.true) in
    let call = c.index-calls-number.result in
    let is : call ≡ get_or c.args.calls.now (get_or places k 0) call = search rules in
    in_order_step c.args.calls.now places k c.loop-place.from.items c.raise.new.from.items call c.requires lt is (c.raise.ensures c.if-not-raise.false) c.loop-place.invariant

pub returns : goal.returns
returns c = λ told.
    let past : length c.args.places.now ≤ c.loop-place.place-index = omega arith in
    in_order_all c.args.calls.now c.args.places.now c.loop-place.place-index c.loop-place.from.items past c.loop-place.invariant
