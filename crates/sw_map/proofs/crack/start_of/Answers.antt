use Rattle.std.proofs.Common.{rules, ◌≡◌, ◌-◌, ◌<◌, length, ℕ, pos, suc, sym, ap, ◌∙◌}
use Rattle.sw_query.specs.declared.bound.Bound.TheVariants.{Before}
use Rattle.sw_kernel.specs.declared.mark.Mark.{Mark}
use Rattle.sw_kernel.specs.Flat.{start_at}
use Rattle.sw_map.proofs.Finding.{start-at}
use Rattle.sw_map.proofs.crack.start_of.Goals as goal

pub returns-else-k-eq0 : goal.returns-else-k-eq0
returns-else-k-eq0 c =
    let ms = c.args.marks.now in let k = c.args.k in
    let none : Mark = record { bound = Before (pos 0); at = 0 } in
    let lt : k - 1 < length ms = search rules in
    let e : suc (k - 1) ≡ k = search rules in
    sym (start-at 0 ms (k - 1) none lt) ∙ ap (λ (n : ℕ). start_at 0 ms n) e
