-- How many cells of rows are used.
use Rattle.std.proofs.Common.{◌≡◌, ◌∙◌, ap, sym, ℕ, ◌+◌, ◌-◌, ◌<◌, ◌≤◌, ◌∷◌, List, length, get_or, drop, subst, pos, ◌⊎◌, inl, inr, arith}
use Rattle.std.proofs.lemmas.Bool.{cases_order}
use Rattle.std.proofs.lemmas.List.{drop-drop, drop_more, get_or-drop, get_or_default}
use Rattle.sw_table.specs.declared.row.Row.{Row}
use Rattle.sw_table.specs.Packed.{IsWithin, zeros}
use Rattle.sw_table.proofs.Packing.{zero-at}

-- a row within n cells is within more of them
pub within-more : (n m : ℕ) (r : Row) → n ≤ m → IsWithin n r → IsWithin m r
within-more n m r le is =
    let same : n + (m - n) ≡ m = omega (arith, le) in
    rw (← same, ← drop-drop (m - n) n r.cells, ← drop-drop (m - n) n zeros) (ap (drop (m - n)) is)

-- the last cell that counts is 0
pub within-less : (n : ℕ) (r : Row) → 1 ≤ n → n ≤ 8 → length r.cells ≡ 8 → get_or r.cells (n - 1) (pos 0) ≡ pos 0 → IsWithin n r → IsWithin (n - 1) r
within-less n r some most long none is =
    let next : n - 1 + 1 ≡ n = omega (arith, some) in
    drop_more r.cells (n - 1) (pos 0) (omega (arith, some, most, long))
    ∙ ap (λ z. z ∷ drop (n - 1 + 1) r.cells) none
    ∙ ap (λ k. pos 0 ∷ drop k r.cells) next
    ∙ ap (λ zs. pos 0 ∷ zs) is
    ∙ sym (drop_more zeros (n - 1) (pos 0) (omega (arith, some, most)) ∙ ap (λ z. z ∷ drop (n - 1 + 1) zeros) (zero-at-all (n - 1)) ∙ ap (λ k. pos 0 ∷ drop k zeros) next)
  where
    zero-at-all : (i : ℕ) → get_or zeros i (pos 0) ≡ pos 0
    zero-at-all i = zero-at 0 i

-- the last cell that counts is not 0
pub none-less : (n m : ℕ) (r : Row) → 1 ≤ n → (get_or r.cells (n - 1) (pos 0) ≡ pos 0 → ⊥) → IsWithin m r → n ≤ m
none-less n m r some used is = which (cases_order n m)
  where
    which : (n ≡ m) ⊎ ((n < m) ⊎ (m < n)) → n ≤ m
    which (inl same) = omega (arith, same)
    which (inr (inl less)) = omega (arith, less)
    which (inr (inr more)) =
        let far : m + (n - 1 - m) ≡ n - 1 = omega (arith, more, some) in
        absurd (used (ap (λ i. get_or r.cells i (pos 0)) (sym far) ∙ sym (get_or-drop m r.cells (n - 1 - m) (pos 0)) ∙ ap (λ xs. get_or xs (n - 1 - m) (pos 0)) is ∙ zero-at m (n - 1 - m)))

-- a row's width, whatever stands for a row that is not there
pub within-at : (n : ℕ) (rs : List Row) (i k : ℕ) (d e : Row) → i ≡ k → k < length rs → IsWithin n (get_or rs k e) → IsWithin n (get_or rs i d)
within-at n rs i k d e same lt is = subst (λ j. IsWithin n (get_or rs j d)) (sym same) (subst (IsWithin n) (get_or_default rs k e d lt) is)
