-- The select of all rows.
use Rattle.std.proofs.Common.{◌≡◌, ◌+◌, ◌++◌, ℕ, suc, [], ◌∷◌, ap, arith}
use Rattle.sw_shell.specs.Rows.{attributes}

-- one attribute more
pub attributes_next : (n m : ℕ) → m ≡ n + 1 → attributes m ≡ attributes n ++ n ∷ []
attributes_next n m e =
    let next : m ≡ suc n = omega (arith, e) in
    ap (λ k. attributes k) next
