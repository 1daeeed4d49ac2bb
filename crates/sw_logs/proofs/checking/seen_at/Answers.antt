use Rattle.std.proofs.Common.{◌≡◌, ◌∙◌, ◌<◌, ◌≤◌, Bool, false, List, sym, ap, get_or, length, arith}
use Rattle.sw_logs.proofs.OrderLemmas.{marked_all, marked_none, marked_step}
use Rattle.sw_logs.proofs.checking.seen_at.Goals as goal

pub loop-place-init : goal.loop-place-init
loop-place-init c = marked_none (length c.args.calls.now) c.args.places.now c.in_ok-seen.seen.items c.in_ok-seen.ensures.many c.in_ok-seen.ensures.none

pub loop-place-preserved : goal.loop-place-preserved
loop-place-preserved c =
    let k = c.loop-place.place-index in
    let places = c.args.places.now in
    let x = get_or places k 0 in
    let lt : k < length places = omega (arith, c.loop-place-test.true) in
    let fresh : get_or c.loop-place.seen.items x false ≡ false = sym (c.is_set.ensures ∙ ap (λ (l : List Bool). get_or l x false) c.as_slice.ensures.value) ∙ c.if-is_set.false in
    marked_step (length c.args.calls.now) places k c.loop-place.seen.items lt (c.requires k lt) fresh c.loop-place.invariant

pub returns : goal.returns
returns c =
    let past : length c.args.places.now ≤ c.loop-place.place-index = omega arith in
    marked_all (length c.args.calls.now) c.args.places.now c.loop-place.place-index c.loop-place.seen.items past c.loop-place.invariant
