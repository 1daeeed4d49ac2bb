-- How many of some flags are false, and flags that turn.
use Rattle.std.proofs.Common.{◌≡◌, ap, sym, refl, ℕ, zero, suc, ◌+◌, ◌≤◌, Bool, true, false, not, cond, List, [], ◌∷◌, ◌++◌, length, filter, get_or, replicate, slice_set, All, arith}
use Rattle.std.proofs.lemmas.Bool.{true≢false}

-- the flags that are false
abbrev pub false_in : List Bool → ℕ
false_in fs = length (filter not fs)

-- no more flags are false than there are
pub false-few : (fs : List Bool) → false_in fs ≤ length fs
false-few [] = omega arith
false-few (true ∷ fs) = let h = false-few fs in omega (arith, h)
false-few (false ∷ fs) = let h = false-few fs in omega (arith, h)

-- of flags that are all true none is false
pub false-fresh : (n : ℕ) → false_in (replicate n true) ≡ 0
false-fresh zero = refl
false-fresh (suc n) = false-fresh n

-- one more flag adds one false flag, if it is false
pub false-more : (fs : List Bool) (b : Bool) → false_in (fs ++ b ∷ []) ≡ false_in fs + cond b 0 1
false-more [] true = refl
false-more [] false = refl
false-more (true ∷ fs) b = false-more fs b
false-more (false ∷ fs) b = let h = false-more fs b in omega (arith, h)

-- where a true flag turns false, one more flag is false
pub false-removed : (fs : List Bool) (p : ℕ) → get_or fs p false ≡ true → false_in (slice_set fs p false) ≡ false_in fs + 1
false-removed [] p e = absurd (true≢false (sym e))
false-removed (true ∷ fs) zero e = omega arith
false-removed (false ∷ fs) zero e = absurd (true≢false (sym e))
false-removed (true ∷ fs) (suc p) e = false-removed fs p e
false-removed (false ∷ fs) (suc p) e = let h = false-removed fs p e in omega (arith, h)

-- where none of the flags is false, all are true
pub false-none : (fs : List Bool) → false_in fs ≡ 0 → All (λ (b : Bool). b ≡ true) fs
false-none [] e k d lt = absurd (omega (arith, lt))
false-none (true ∷ fs) e zero d lt = refl
false-none (false ∷ fs) e k d lt = absurd (omega (arith, e))
false-none (true ∷ fs) e (suc k) d lt = false-none fs e k d (omega (arith, lt))

-- where all flags are true, none is false
pub false-nowhere : (fs : List Bool) → All (λ (b : Bool). b ≡ true) fs → false_in fs ≡ 0
false-nowhere [] a = refl
false-nowhere (true ∷ fs) a = false-nowhere fs (λ k d lt. a (suc k) d (omega (arith, lt)))
false-nowhere (false ∷ fs) a = absurd (true≢false (sym (a 0 true (omega arith))))

-- the flag as it already is
pub set-same : (fs : List Bool) (p : ℕ) (b : Bool) → get_or fs p (not b) ≡ b → slice_set fs p b ≡ fs
set-same [] p b e = refl
set-same (x ∷ fs) zero b e = ap (λ v. v ∷ fs) (sym e)
set-same (x ∷ fs) (suc p) b e = ap (λ v. x ∷ v) (set-same fs p b e)

-- flags that are all true
pub flags-all : (n : ℕ) (fs : List Bool) → length fs ≡ n → false_in fs ≡ 0 → fs ≡ replicate n true
flags-all zero [] l e = refl
flags-all zero (b ∷ fs) l e = absurd (omega (arith, l))
flags-all (suc n) [] l e = absurd (omega (arith, l))
flags-all (suc n) (true ∷ fs) l e = ap (λ v. true ∷ v) (flags-all n fs (omega (arith, l)) e)
flags-all (suc n) (false ∷ fs) l e = absurd (omega (arith, e))
