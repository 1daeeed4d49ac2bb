use Rattle.std.proofs.Common.{rules, ◌≡◌, ◌<◌, ℕ, List, [], subst, arith, get_or, length}
use Rattle.sw_lang.proofs.Progress.{Progress, begin, step, stops_within}
use Rattle.sw_cli.specs.Outcomes.{blocks_told, text_of}
use Rattle.sw_cli.proofs.Outcomes.{at_default, text_first, text_is_from, told_at, told_many}
use Rattle.sw_cli.proofs.telling.write_blocks.Goals as goal

pub loop-place-init : goal.loop-place-init
loop-place-init g c =
    let whole = text_of c.args.schema.now (blocks_told c.args.blocks.now c.args.told.now) in
    let s = g.W.Sink in
    subst (λ (rest : List ℕ). Progress (s.taken c.args.out.now) (s.taken c.args.out.now) (s.failed c.args.out.now) (s.failed c.args.out.now) whole rest) (text_is_from c.args.schema.now (blocks_told c.args.blocks.now c.args.told.now)) begin

pub bounds-told-place : goal.bounds-told-place
bounds-told-place g c =
    let here : c.loop-place.place < length c.args.blocks.now = search rules in
    let many = told_many c.args.blocks.now c.args.told.now c.requires in
    omega (arith, here, many)

pub returns-in_err-write_divider : goal.returns-in_err-write_divider
returns-in_err-write_divider g c =
    let n = c.loop-place.place in
    let here : n < length c.args.blocks.now = search rules in
    let many = told_many c.args.blocks.now c.args.told.now c.requires in
    let there : n < length c.args.told.now = omega (arith, here, many) in
    let b = get_or c.args.blocks.now n [] in
    let t = get_or c.args.told.now n [] in
    let parted = rw (text_first c.args.schema.now c.args.blocks.now c.args.told.now n b t here there (at_default c.args.blocks.now n [] here) (at_default c.args.told.now n [] there)) at c.loop-place.invariant in
    stops_within _ _ c.from_residual.result c.from_residual.ensures.1 parted c.in_err-write_divider.ensures

pub write_block-requires : goal.write_block-requires
write_block-requires g c =
    let n = c.loop-place.place in
    let here : n < length c.args.blocks.now = search rules in
    let block : c.calls.result.now ≡ get_or c.args.blocks.now n c.calls.result.now = search rules in
    let one : c.told.result.now ≡ get_or c.args.told.now n c.told.result.now = search rules in
    told_at c.args.blocks.now c.args.told.now n c.calls.result.now c.told.result.now c.requires here block one

pub returns-in_err-write_block : goal.returns-in_err-write_block
returns-in_err-write_block g c =
    let n = c.loop-place.place in
    let here : n < length c.args.blocks.now = search rules in
    let many = told_many c.args.blocks.now c.args.told.now c.requires in
    let there : n < length c.args.told.now = omega (arith, here, many) in
    let block : c.calls.result.now ≡ get_or c.args.blocks.now n c.calls.result.now = search rules in
    let one : c.told.result.now ≡ get_or c.args.told.now n c.told.result.now = search rules in
    let parted = rw (text_first c.args.schema.now c.args.blocks.now c.args.told.now n c.calls.result.now c.told.result.now here there block one) at c.loop-place.invariant in
    stops_within _ _ c.from_residual-in_err-write_block.result c.from_residual-in_err-write_block.ensures.1 (step parted c.in_ok-write_divider.ensures) c.in_err-write_block.ensures

pub loop-place-preserved : goal.loop-place-preserved
loop-place-preserved g c =
    let n = c.loop-place.place in
    let here : n < length c.args.blocks.now = search rules in
    let many = told_many c.args.blocks.now c.args.told.now c.requires in
    let there : n < length c.args.told.now = omega (arith, here, many) in
    let block : c.calls.result.now ≡ get_or c.args.blocks.now n c.calls.result.now = search rules in
    let one : c.told.result.now ≡ get_or c.args.told.now n c.told.result.now = search rules in
    let parted = rw (text_first c.args.schema.now c.args.blocks.now c.args.told.now n c.calls.result.now c.told.result.now here there block one) at c.loop-place.invariant in
    step (step parted c.in_ok-write_divider.ensures) c.in_ok-write_block.ensures
