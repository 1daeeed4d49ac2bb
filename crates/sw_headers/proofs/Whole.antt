-- Where no column is passed by.
use Rattle.std.proofs.Common.{◌≡◌, ◌∙◌, ap, sym, refl, ℕ, zero, suc, ◌+◌, ◌<◌, ◌&&◌, Bool, true, false, cond, List, [], ◌∷◌, length, nat_lt, take, add-one, arith, true≢false}
use Rattle.std.proofs.lemmas.Bool.Decides.{nat_tests}
use Rattle.std.proofs.lemmas.List.{length-take-le}
use Rattle.std.specs.List.{list_all}
use Rattle.sw_headers.specs.Steps.{commas, keeps_at, lacking}
use Rattle.sw_headers.specs.Under.{kept_in}
use Rattle.sw_headers.proofs.Runs.{both_true, by_bool}

-- no column is passed by
abbrev pub keeps_all : List Bool → Bool
keeps_all keeps = list_all (λ k. k) keeps

-- then each field is kept
pub kept_at : (keeps : List Bool) (n : ℕ) → keeps_all keeps ≡ true → keeps_at keeps n ≡ true
kept_at [] n h = refl
kept_at (k ∷ ks) zero h = (both_true k (keeps_all ks) h).0
kept_at (k ∷ ks) (suc n) h = kept_at ks n (both_true k (keeps_all ks) h).1

-- a column is passed by
pub not_all : (keeps : List Bool) (n : ℕ) → keeps_at keeps n ≡ false → keeps_all keeps ≡ false
not_all keeps n h = by_bool (keeps_all keeps) (λ e. absurd (true≢false (sym (kept_at keeps n e) ∙ h))) (λ e. e)

kept_every : (keeps : List Bool) → keeps_all keeps ≡ true → kept_in keeps ≡ length keeps
kept_every [] h = refl
kept_every (k ∷ ks) h =
    let each = both_true k (keeps_all ks) h in
    ap (λ b. cond b (kept_in ks + 1) (kept_in ks)) each.0 ∙ add-one (kept_in ks) ∙ ap suc (kept_every ks each.1)

first_kept : (n : ℕ) (keeps : List Bool) → keeps_all keeps ≡ true → keeps_all (take n keeps) ≡ true
first_kept zero keeps h = refl
first_kept (suc n) [] h = refl
first_kept (suc n) (k ∷ ks) h =
    let each = both_true k (keeps_all ks) h in
    ap (λ b. b && keeps_all (take n ks)) each.0 ∙ first_kept n ks each.1

-- so no record needs one more comma
pub commas_none : (keeps : List Bool) (field : ℕ) → keeps_all keeps ≡ true → commas keeps field ≡ 0
commas_none keeps field h = by_bool (nat_lt (field + 1) (length keeps))
    (λ e.
    let lt : field + 1 < length keeps = grind (arith, nat_tests, e) in
    let some : kept_in (take (field + 1) keeps) ≡ field + 1 = kept_every _ (first_kept (field + 1) keeps h) ∙ length-take-le (field + 1) keeps (omega (arith, lt)) in
    let every : kept_in keeps ≡ length keeps = kept_every keeps h in
    ap (λ b. cond b (lacking (kept_in (take (field + 1) keeps)) (kept_in keeps)) 0) e
    ∙ grind (arith, nat_tests, some, every, lt))
    (λ e. ap (λ b. cond b (lacking (kept_in (take (field + 1) keeps)) (kept_in keeps)) 0) e)
