use Rattle.std.proofs.Common.{rules, ◌≡◌, ◌<◌, arith, get_or, length}
use Rattle.sw_lang.proofs.Progress.{step, stops_within}
use Rattle.sw_cli.proofs.Outcomes.{block_first}
use Rattle.sw_cli.proofs.telling.write_block.Goals as goal

pub loop-place-preserved : goal.loop-place-preserved
loop-place-preserved g c =
    let n = c.loop-place.place in
    let here : n < length c.args.calls.now = search rules in
    let there : n < length c.args.told.now = omega (arith, here, c.requires) in
    let call : c.index-calls-place.result ≡ get_or c.args.calls.now n c.index-calls-place.result = search rules in
    let one : c.index-told-place.result ≡ get_or c.args.told.now n c.index-told-place.result = search rules in
    let parted = rw (block_first c.args.schema.now c.args.calls.now c.args.told.now n c.index-calls-place.result c.index-told-place.result here there call one) at c.loop-place.invariant in
    step parted c.in_ok-write_told.ensures

pub returns-in_err-write_told : goal.returns-in_err-write_told
returns-in_err-write_told g c =
    let n = c.loop-place.place in
    let here : n < length c.args.calls.now = search rules in
    let there : n < length c.args.told.now = omega (arith, here, c.requires) in
    let call : c.index-calls-place.result ≡ get_or c.args.calls.now n c.index-calls-place.result = search rules in
    let one : c.index-told-place.result ≡ get_or c.args.told.now n c.index-told-place.result = search rules in
    let parted = rw (block_first c.args.schema.now c.args.calls.now c.args.told.now n c.index-calls-place.result c.index-told-place.result here there call one) at c.loop-place.invariant in
    stops_within _ _ c.from_residual.result c.from_residual.ensures.1 parted c.in_err-write_told.ensures
