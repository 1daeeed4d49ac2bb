use Rattle.std.proofs.Common.{◌≡◌, ◌<◌, ◌≤◌, get_or, length, arith, rules}
use Rattle.sw_logs.proofs.OrderLemmas.{on_time_all, on_time_none, on_time_step}
use Rattle.sw_logs.proofs.checking.keeps_times.Goals as goal

pub loop-place-init : goal.loop-place-init
loop-place-init c = on_time_none c.args.slack c.args.calls.now c.args.places.now 0

pub loop-place-preserved : goal.loop-place-preserved
loop-place-preserved c =
    let k = c.loop-place.place-index in
    let places = c.args.places.now in
    let lt : k < length places = omega (arith, c.loop-place-test.true) in
    let call = c.index-calls-number.result in
    let is : call ≡ get_or c.args.calls.now (get_or places k 0) call = search rules in
    on_time_step c.args.slack c.args.calls.now places k c.loop-place.latest c.in-Some.next call c.requires lt is c.in-Some.ensures c.loop-place.invariant

pub returns : goal.returns
returns c = λ told.
    let past : length c.args.places.now ≤ c.loop-place.place-index = omega arith in
    on_time_all c.args.slack c.args.calls.now c.args.places.now c.loop-place.place-index c.loop-place.latest past c.loop-place.invariant
