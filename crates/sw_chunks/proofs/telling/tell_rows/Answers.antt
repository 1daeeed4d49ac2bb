use Rattle.std.proofs.Common.{◌≡◌, ◌<◌, ℕ, [], length, get_or, subst, arith}
use Rattle.sw_table.specs.declared.row.Row.{Row}
use Rattle.sw_query.specs.Scan.{cell_of}
use Rattle.sw_chunks.specs.Heads.{IsCell, told_in}
use Rattle.sw_chunks.proofs.Tells.{all-more, inserted-more}
use Rattle.sw_chunks.proofs.telling.tell_rows.Goals as goal

pub loop-at-preserved : goal.loop-at-preserved
loop-at-preserved c =
    let z : Row = record { key = 0; cells = [] } in
    let xs = c.args.rows.now.items in let n = c.loop-at.at in
    let lt : n < length xs = omega (arith, c.loop-at-test.true, c.len-at-end.ensures.many) in
    let row : c.get-row.result ≡ get_or xs n z = c.get-row.ensures z in (
      inserted-more xs n z (told_in c.loop-at.told.rows) (told_in c.tell.new.told.rows) c.get-row.result lt c.loop-at.invariant.0 row c.tell.ensures,
      all-more (λ (r : Row). (a : ℕ) → IsCell (cell_of a r)) xs n z lt c.loop-at.invariant.1 (subst (λ (r : Row). (a : ℕ) → IsCell (cell_of a r)) row c.cells_fit.ensures),
    )
