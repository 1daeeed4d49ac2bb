-- A code of a table: the model of its two lists and marks names it.
use Rattle.std.specs.Prelude.{ℤ, ℕ, refl}
use Rattle.std.specs.Coded.{Coded, code_by, coded×, coded_ℕ}
use Rattle.sw_kernel.specs.Arrangement.{Arrangement}
use Rattle.sw_map.specs.Codes.{pairs_code}
use Rattle.sw_map.specs.Pieces.{Table}

abbrev pub table_code : Coded Table
table_code =
    code_by (Arrangement (ℤ × ℤ) × ℕ) (coded× pairs_code coded_ℕ)
    (λ t. (t.pieces, t.room))
    (λ p. record { pieces = p.0; room = p.1 })
    (λ _. refl)
