use Rattle.std.proofs.Common.{rules, arith, w64, ◌≡◌, ◌∙◌, ◌+◌, ◌<◌, ◌^◌, ℕ, [], ap, drop, length, length-set, map, pos, sym, take}
use Rattle.std.proofs.lemmas.Int.{to_z_pos}
use Rattle.std.proofs.lemmas.List.{take_all, take_more_set}
use Rattle.sw_table.specs.declared.row.Row.{Row}
use Rattle.sw_load.specs.Appended.{key_cell}
use Rattle.sw_load.proofs.Appended.{part-more, small-at}
use Rattle.sw_load.proofs.appending.read_keys.Goals as goal

pub overflow_cast-block : goal.overflow_cast-block
overflow_cast-block c =
    let none : Row = record { key = 0; cells = [] } in
    let inside : c.args.start + c.loop-k.k < length c.args.rows.now.items = omega (arith, c.requires.within, c.loop-k-test.true) in
    let small = small-at c.args.rows.now.items c.args.start (length c.args.block.now) c.loop-k.k none inside c.loop-k-test.true c.requires.small in
    let fits : c.key.result < 2 ^ 63 = omega (arith, c.key.ensures none, small) in
    search (rules, fits)

pub loop-k-preserved : goal.loop-k-preserved
loop-k-preserved c =
    let none : Row = record { key = 0; cells = [] } in
    let (long, so_far) = c.loop-k.invariant in
    let lt : c.loop-k.k < length c.loop-k.block = omega (arith, long, c.loop-k-test.true) in
    let inside : c.args.start + c.loop-k.k < length c.args.rows.now.items = omega (arith, c.requires.within, c.loop-k-test.true) in
    let small = small-at c.args.rows.now.items c.args.start (length c.args.block.now) c.loop-k.k none inside c.loop-k-test.true c.requires.small in
    let fits : c.key.result < 2 ^ 63 = omega (arith, c.key.ensures none, small) in (
      length-set _ _ _ ∙ long,
      take_more_set c.loop-k.block c.loop-k.k _ lt
          ∙ part-more key_cell (take c.loop-k.k c.loop-k.block) [] c.args.rows.now.items c.args.start c.loop-k.k none _ inside so_far (to_z_pos w64 c.key.result fits ∙ ap pos (c.key.ensures none)),
    )

pub returns : goal.returns
returns c =
    let (long, so_far) = c.loop-k.invariant in
    let all : c.loop-k.k ≡ length c.args.block.now = omega (arith, c.loop-k.auto.k-end, c.loop-k-test.false) in
    sym (take_all c.loop-k.k c.loop-k.block (omega (arith, all, long))) ∙ so_far
    ∙ ap (λ (n : ℕ). map key_cell (take n (drop c.args.start c.args.rows.now.items))) all
