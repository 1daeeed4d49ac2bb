use Rattle.std.proofs.Common.{◌≡◌, ◌<◌, get_or, length, rules}
use Rattle.sw_logs.proofs.OrderLemmas.{known_step}
use Rattle.sw_logs.proofs.checking.has_known.Goals as goal

pub loop-number-preserved : goal.loop-number-preserved
loop-number-preserved c =
    let n = c.loop-number.number in
    let calls = c.args.calls.now in
    let call = c.index-calls-number.result in
    let lt : n < length calls = search rules in
    let is : call ≡ get_or calls n call = search rules in
    known_step calls c.args.places.now c.args.seen.now.items n call lt is c.requires.seen_are (c.is_missing.ensures c.if-is_missing.false) c.loop-number.invariant
