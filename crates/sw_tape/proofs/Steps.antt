-- One more step of a tape.
use Rattle.std.proofs.Common.{◌≡◌, ℕ, ◌+◌, max, Bool, true, false, ◌||◌, List, [], ◌∷◌, ◌++◌, length, refl, ap, ◌∙◌, subst, arith}
use Rattle.sw_query.specs.declared.bound.Bound.{Bound}
use Rattle.sw_kernel.specs.Replay.{Step, loaded, inserted, removed, ranged}
use Rattle.sw_kernel.specs.Tapes.{MayFollow, AllFollow, IsTape, count_after, count_from, peak_from, ranges_at, is_marked}

-- with one more step the number of items is what the step makes of the number before
pub count-push : {A : Type 0} (n : ℕ) (es : List (Step A)) (e : Step A) → count_from n (es ++ e ∷ []) ≡ count_after (count_from n es) e
count-push n [] e = refl
count-push n (x ∷ es) e = count-push (count_after n x) es e

-- with one more step the peak is the greater of the peak before and the number after the step
pub peak-push : {A : Type 0} (n : ℕ) (es : List (Step A)) (e : Step A) → peak_from n (es ++ e ∷ []) ≡ max (peak_from n es) (count_after (count_from n es) e)
peak-push n [] e = max_swap (count_after n e)
  where
    max_swap : (a : ℕ) → max a 0 ≡ max 0 a
    max_swap a = omega arith
peak-push n (x ∷ es) e =
    let h = peak-push (count_after n x) es e in
    ap (λ m. max (count_after n x) m) h ∙ max_turn (count_after n x) (peak_from (count_after n x) es) (count_after (count_from (count_after n x) es) e)
  where
    max_turn : (a b c : ℕ) → max a (max b c) ≡ max (max a b) c
    max_turn a b c = omega arith

follow-push : {A : Type 0} (n : ℕ) (es : List (Step A)) (e : Step A) → AllFollow n es → MayFollow (count_from n es) e → AllFollow n (es ++ e ∷ [])
follow-push n [] e f m = (m, tt)
follow-push n (x ∷ es) e f m = (f.0, follow-push (count_after n x) es e f.1 m)

-- a tape with one more step that may follow is a tape
pub tape-push : {A : Type 0} (es : List (Step A)) (e : Step A) → IsTape es → MayFollow (count_from 0 es) e → IsTape (es ++ e ∷ [])
tape-push [] e t m = absurd t
tape-push {A} (loaded xs ∷ es) e t m =
    let z : 0 + length xs ≡ length xs = omega arith in
    follow-push (length xs) es e t (subst (λ (n : ℕ). MayFollow (count_from {A = A} n es) e) z m)
tape-push (inserted x ∷ es) e t m = absurd t
tape-push (removed n ∷ es) e t m = absurd t
tape-push (ranged l u ∷ es) e t m = absurd t

or-turn : (s t u : Bool) → s || (t || u) ≡ t || (s || u)
or-turn true true u = refl
or-turn true false u = refl
or-turn false t u = refl

-- with one more step the bounds that stand in ranges are those from before, and those of its range
pub marked-push : {A : Type 0} (b : Bound) (es : List (Step A)) (e : Step A) → is_marked b (es ++ e ∷ []) ≡ ranges_at b e || is_marked b es
marked-push b [] e = refl
marked-push b (x ∷ es) e = ap (λ t. ranges_at b x || t) (marked-push b es e) ∙ or-turn (ranges_at b x) (ranges_at b e) (is_marked b es)

-- what a range adds, bound by bound
pub marked-two : (s t u : Bool) → t || (s || u) ≡ (s || t) || u
marked-two true true u = refl
marked-two true false u = refl
marked-two false true u = refl
marked-two false false u = refl
