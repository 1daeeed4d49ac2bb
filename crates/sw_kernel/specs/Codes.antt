-- A code of arrangements: a model whose value holds one names it.
use Rattle.std.specs.Prelude.{◌≡◌, ℤ, List, [], ◌∷◌, ◌⊎◌, refl}
use mathlib.Core.Logic.{inl, inr}
use mathlib.Core.Path.{ap}
use Rattle.std.specs.Coded.{Coded, code_by, coded×, coded⊎, coded_ℤ, coded_list}
use Rattle.sw_query.specs.declared.bound.Bound.{Bound}
use Rattle.sw_query.specs.declared.bound.Bound.TheVariants.{Before, After}
use Rattle.sw_kernel.specs.Arrangement.{Arrangement, last, piece}

-- a bound as one of two numbers
abbrev pub sided : Bound → ℤ ⊎ ℤ
sided (Before v) = inl v
sided (After v) = inr v

abbrev pub unsided : ℤ ⊎ ℤ → Bound
unsided (inl v) = Before v
unsided (inr v) = After v

-- the pieces that have a bound after them, and the last one
abbrev pub laid_out : {A : Type 0} → Arrangement A → List (List A × (ℤ ⊎ ℤ)) × List A
laid_out (last xs) = ([], xs)
laid_out (piece xs b rest) = ((xs, sided b) ∷ (laid_out rest).0, (laid_out rest).1)

abbrev pub taken_up : {A : Type 0} → List (List A × (ℤ ⊎ ℤ)) → List A → Arrangement A
taken_up [] xs = last xs
taken_up (p ∷ ps) xs = piece p.0 (unsided p.1) (taken_up ps xs)

abbrev pub taken_up-laid_out : {A : Type 0} (a : Arrangement A) → taken_up (laid_out a).0 (laid_out a).1 ≡ a
taken_up-laid_out (last xs) = refl
taken_up-laid_out (piece xs (Before v) rest) = ap (λ r. piece xs (Before v) r) (taken_up-laid_out rest)
taken_up-laid_out (piece xs (After v) rest) = ap (λ r. piece xs (After v) r) (taken_up-laid_out rest)

abbrev pub arrangement_code : {A : Type 0} → Coded A → Coded (Arrangement A)
arrangement_code {A} a =
    code_by (List (List A × (ℤ ⊎ ℤ)) × List A)
    (coded× (coded_list (coded× (coded_list a) (coded⊎ coded_ℤ coded_ℤ))) (coded_list a))
    laid_out (λ p. taken_up p.0 p.1) taken_up-laid_out
