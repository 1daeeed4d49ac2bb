use Rattle.std.proofs.Common.{rules, arith, w64, ◌≡◌, ◌∙◌, ◌+◌, ◌<◌, ℕ, [], ap, drop, length, length-set, map, sym, take}
use Rattle.std.proofs.lemmas.Int.{to_z-of_z}
use Rattle.std.proofs.lemmas.List.{take_all, take_more_set}
use Rattle.sw_table.specs.Rows.{cell_of}
use Rattle.sw_table.specs.declared.row.Row.{Row}
use Rattle.sw_load.proofs.Appended.{part-more}
use Rattle.sw_load.proofs.appending.read_cells.Goals as goal

pub loop-k-preserved : goal.loop-k-preserved
loop-k-preserved c =
    let none : Row = record { key = 0; cells = [] } in
    let (long, so_far) = c.loop-k.invariant in
    let lt : c.loop-k.k < length c.loop-k.block = omega (arith, long, c.loop-k-test.true) in
    let inside : c.args.start + c.loop-k.k < length c.args.rows.now.items = omega (arith, c.requires, c.loop-k-test.true) in (
      length-set _ _ _ ∙ long,
      take_more_set c.loop-k.block c.loop-k.k _ lt
          ∙ part-more (cell_of c.args.attr) (take c.loop-k.k c.loop-k.block) [] c.args.rows.now.items c.args.start c.loop-k.k none _ inside so_far (to_z-of_z w64 c.cell.result (search rules) ∙ c.cell.ensures none),
    )

pub returns : goal.returns
returns c =
    let (long, so_far) = c.loop-k.invariant in
    let all : c.loop-k.k ≡ length c.args.block.now = omega (arith, c.loop-k.auto.k-end, c.loop-k-test.false) in
    sym (take_all c.loop-k.k c.loop-k.block (omega (arith, all, long))) ∙ so_far
    ∙ ap (λ (n : ℕ). map (cell_of c.args.attr) (take n (drop c.args.start c.args.rows.now.items))) all
