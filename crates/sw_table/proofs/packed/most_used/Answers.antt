use Rattle.std.proofs.Common.{◌≡◌, ◌<◌, ◌≤◌, ◌+◌, ℕ, get_or, ◌⊎◌, inl, inr, arith}
use Rattle.std.proofs.lemmas.Bool.{cases_order}
use Rattle.sw_table.specs.declared.row.Row.{Row}
use Rattle.sw_table.specs.Packed.{IsWithin}
use Rattle.sw_table.proofs.Widths.{within-at, within-more}
use Rattle.sw_table.proofs.packed.most_used.Goals as goal

pub loop-row-preserved : goal.loop-row-preserved
loop-row-preserved c =
    let rows = c.args.rows.now in let at = c.loop-row.row-index in
    let old : c.loop-row.most ≤ c.max-most.result = grind arith in
    let new : c.used.result ≤ c.max-most.result = grind arith in
    record {
      some = omega (arith, old, c.loop-row.invariant.some);
      most = grind arith;
      within = λ i d lt. which i d lt (cases_order i at) old new;
      least = λ m some all.
          let before : c.loop-row.most ≤ m = c.loop-row.invariant.least m some all in
          let here : c.used.result ≤ m = c.used.ensures.least m some (all at _ c.loop-row-test.true) in
          (let le : c.max-most.result ≤ m = grind (arith, before, here) in le);
    }
  where
    which : (i : ℕ) (d : Row) → i < c.loop-row.row-index + 1 → (i ≡ c.loop-row.row-index) ⊎ ((i < c.loop-row.row-index) ⊎ (c.loop-row.row-index < i)) → c.loop-row.most ≤ c.max-most.result → c.used.result ≤ c.max-most.result → IsWithin c.max-most.result (get_or c.args.rows.now i d)
    which i d lt (inl same) old new = within-more c.used.result c.max-most.result (get_or c.args.rows.now i d) new (within-at c.used.result c.args.rows.now i c.loop-row.row-index d _ same c.loop-row-test.true c.used.ensures.within)
    which i d lt (inr (inl less)) old new = within-more c.loop-row.most c.max-most.result (get_or c.args.rows.now i d) old (c.loop-row.invariant.within i d less)
    which i d lt (inr (inr more)) old new = absurd (omega (arith, lt, more))
