use Rattle.std.proofs.Common.{◌≡◌, ◌<◌, length, get_or, [], ap, ◌∙◌, arith}
use Rattle.sw_query.specs.Scan.{answer_over}
use Rattle.sw_set.specs.Shelf.{AreaState}
use Rattle.sw_chunks.specs.Asked.{with_all, with_area}
use Rattle.sw_chunks.proofs.Asking.{get-any}
use Rattle.sw_chunks.proofs.Steps.{fits-here, reply-next, scanned-next, untouched-next}
use Rattle.sw_chunks.proofs.scanning.scan_areas.Goals as goal

pub add_scan-requires-clause-fits : goal.add_scan-requires-clause-fits
add_scan-requires-clause-fits g c = λ κs far.
    fits-here c.args.query.now c.loop-k.k c.args.areas.now c.loop-k.areas c.loop-k.reply 1 c.loop-k-test.true c.loop-k.invariant.0 c.loop-k.invariant.2 c.index-areas-k.result

pub returns-in_err-reply-clause-kept : goal.returns-in_err-reply-clause-kept
returns-in_err-reply-clause-kept g c =
    let w = c.loop-k.invariant.0 in let lt : c.loop-k.k < length c.args.areas.now = c.loop-k-test.true in
    let area : AreaState = get_or c.loop-k.areas c.loop-k.k c.index-areas-k.result in
    let within : c.loop-k.k < length c.loop-k.areas = let m = w.same.0 in omega (arith, lt, m) in
    untouched-next c.args.query.now c.loop-k.k c.args.areas.now c.loop-k.areas area c.add_scan.new.area lt w (get-any c.loop-k.areas c.loop-k.k area c.index-areas-k.result within) c.add_scan.ensures.kept c.loop-k.invariant.3

pub loop-k-preserved : goal.loop-k-preserved
loop-k-preserved g c =
    let w = c.loop-k.invariant.0 in let lt : c.loop-k.k < length c.args.areas.now = c.loop-k-test.true in
    let area : AreaState = get_or c.loop-k.areas c.loop-k.k c.index-areas-k.result in
    let within : c.loop-k.k < length c.loop-k.areas = let m = w.same.0 in omega (arith, lt, m) in
    let next = scanned-next c.args.query.now c.loop-k.k c.args.areas.now c.loop-k.areas area c.add_scan.new.area lt w (get-any c.loop-k.areas c.loop-k.k area c.index-areas-k.result within) c.add_scan.ensures.same c.add_scan.ensures.kept in
    let is : c.in_ok-reply.reply ≡ with_area c.args.query.now c.loop-k.reply area = c.in_ok-reply.ensures.answered in
    let both = reply-next c.args.query.now c.loop-k.k c.args.areas.now c.loop-k.areas c.loop-k.reply c.in_ok-reply.reply (with_all c.args.query.now (answer_over [] c.args.query.now.want) c.args.areas.now) 1 lt w (λ d. is ∙ ap (with_area c.args.query.now c.loop-k.reply) (get-any c.loop-k.areas c.loop-k.k c.index-areas-k.result d within)) c.loop-k.invariant.1 c.loop-k.invariant.2 area in (
      next,
      both.0,
      both.1,
      untouched-next c.args.query.now c.loop-k.k c.args.areas.now c.loop-k.areas area c.add_scan.new.area lt w (get-any c.loop-k.areas c.loop-k.k area c.index-areas-k.result within) c.add_scan.ensures.kept c.loop-k.invariant.3,
    )
