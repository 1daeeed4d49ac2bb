use Rattle.std.proofs.Common.{◌≡◌, ◌∙◌, ◌+◌, ◌≤◌, ℕ, List, ap, subst, max, get_or, set, arith}
use Rattle.sw_logs.proofs.checking.raise.Goals as goal

pub returns : goal.returns
returns c = λ told.
    let old = c.args.from.now.items in
    let s = c.args.call.now.session in
    let n = c.args.number in
    let first : c.number_at-first.result ≡ get_or old s 0 = c.number_at-first.ensures ∙ ap (λ (l : List ℕ). get_or l s 0) c.as_slice.ensures.value in
    record {
      within = omega arith;
      ahead = λ known. subst (λ (m : ℕ). m ≤ n) first (c.is_behind.ensures c.if-is_behind.false known);
      raised = ap (λ (m : ℕ). set old s m) (c.above.ensures ∙ ap (λ (m : ℕ). max m (n + 1)) first);
    }
