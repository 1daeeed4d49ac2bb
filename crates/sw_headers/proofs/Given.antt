-- Bytes that were given of those that wait.
use Rattle.std.proofs.Common.{◌≡◌, ◌∙◌, ◌≤◌, ◌<◌, ◌+◌, ◌-◌, ◌++◌, ℕ, zero, suc, List, [], ◌∷◌, length, min, take, drop, refl, ap, sym, subst, arith}
use Rattle.std.proofs.Math.Seq.{drop-nil}
use Rattle.std.proofs.lemmas.List.{take-append-drop, take-append-le, length-drop, length-take-le}

drop_more : (h n : ℕ) (out : List ℕ) → drop n (drop h out) ≡ drop (h + n) out
drop_more zero n out =
    let same : n ≡ 0 + n = omega arith in
    ap (λ i. drop i out) same
drop_more (suc h) n [] = drop-nil n ∙ sym (drop-nil (suc h + n))
drop_more (suc h) n (x ∷ out) =
    let same : suc (h + n) ≡ suc h + n = omega arith in
    drop_more h n out ∙ ap (λ i. drop i (x ∷ out)) same

take_own : (n : ℕ) (xs : List ℕ) → take n (take n xs) ≡ take n xs
take_own zero xs = refl
take_own (suc n) [] = refl
take_own (suc n) (x ∷ xs) = ap (λ ys. x ∷ ys) (take_own n xs)

-- the first of what waits are given, and the others are left behind them
pub given_first : (h n : ℕ) (out given buf : List ℕ) → given ≡ take n (drop h out) → n ≤ length (drop h out)
    → take n (given ++ buf) ++ drop (h + n) out ≡ drop h out
given_first h n out given buf e lt =
    let long : n ≤ length given = rw e (omega (arith, length-take-le n (drop h out) lt)) in
    ap (λ xs. xs ++ drop (h + n) out) (take-append-le n given buf long ∙ ap (λ xs. take n xs) e ∙ take_own n (drop h out))
    ∙ ap (λ ys. take n (drop h out) ++ ys) (sym (drop_more h n out))
    ∙ take-append-drop n (drop h out)

-- the same, where no more was given before than there is
pub given_some : (out given buf left : List ℕ) (h m n k : ℕ) → left ≡ drop m out → m ≡ min h (length out) → n < length left
    → given ≡ take n left → k ≡ min (h + n) 18446744073709551615 → length out < 18446744073709551616
    → take n (given ++ buf) ++ drop k out ≡ drop h out
given_some out given buf left h m n k l e lt g sat few =
    let long : length left ≡ length out - m = rw l (length-drop m out) in
    let at : m ≡ h = omega (arith, long, lt, e) in
    let on : k ≡ h + n = omega (arith, long, lt, at, sat, few) in
    let all : left ≡ drop h out = l ∙ ap (λ i. drop i out) at in
    ap (λ i. take n (given ++ buf) ++ drop i out) on
    ∙ given_first h n out given buf (g ∙ ap (λ xs. take n xs) all) (subst (λ xs. n ≤ length xs) all (omega (arith, lt)))
