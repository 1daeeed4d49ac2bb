use Rattle.std.proofs.Common.{◌≡◌, ◌+◌, ◌-◌, ◌++◌, ◌≤◌, List, arith, drop, subst, take}
use Rattle.sw_table.specs.Rows.{cell_of}
use Rattle.sw_table.specs.declared.row.Row.{Row}
use Rattle.sw_load.specs.Appended.{Fit, cell_or_key, part_of}
use Rattle.sw_load.proofs.Appended.{IsAppending, appending-more, fit-behind}
use Rattle.sw_load.proofs.Halves.{part-cut}
use Rattle.sw_load.proofs.appending.append_part.Goals as goal

pub loop-from-preserved : goal.loop-from-preserved
loop-from-preserved c =
    let xs = c.args.rows.now.items in let n = c.loop-from.from in let k = c.min.result in let end = c.args.part.start + c.args.part.many in
    let all = part_of xs c.args.part in
    let inside : n + k ≤ end = omega (arith, c.min.ensures, c.loop-from-test.true) in
    let some = take k (drop n xs) in let rest = take (end - (n + k)) (drop (n + k) xs) in
    let cut : take (end - n) (drop n xs) ≡ some ++ rest = part-cut xs n end k inside in
    record {
      within = inside;
      fit = fit-behind c.args.columns.tail some rest (subst (λ (v : List Row). Fit c.args.columns.tail v) cut c.loop-from.invariant.fit);
      heads =
          appending-more (cell_of c.args.columns.head) c.args.heads.now c.loop-from.heads c.append_block.new.out some rest all
          (subst (λ (v : List Row). IsAppending (cell_of c.args.columns.head) c.args.heads.now c.loop-from.heads v all) cut c.loop-from.invariant.heads)
          c.append_block.ensures;
      tails =
          appending-more (cell_or_key c.args.columns.tail) c.args.tails.now c.loop-from.tails c.append_block-in-loop-from.new.out some rest all
          (subst (λ (v : List Row). IsAppending (cell_or_key c.args.columns.tail) c.args.tails.now c.loop-from.tails v all) cut c.loop-from.invariant.tails)
          c.append_block-in-loop-from.ensures;
    }
