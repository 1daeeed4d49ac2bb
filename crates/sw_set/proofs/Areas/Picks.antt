-- The least recently used box among those looked at so far.
use Rattle.std.proofs.Common.{◌≡◌, ◌≢◌, ℕ, ◌+◌, ◌<◌, ◌⊎◌, inl, inr, List, length, get_or, refl, ap, sym, ◌∙◌, arith, subst, Option, Some, None, MatchOption, eqb, eqb-true, eq-eqb, Bool, true, false, true≢false}
use Rattle.sw_set.specs.Sought.{IsAt}
use Rattle.sw_set.proofs.Areas.Boxes.{get_or_any}

-- what is known of the first n elements
abbrev pub Before : {X : Type 0} → (X → Type 0) → List X → ℕ → Type 0
Before {X} N xs n = (k : ℕ) (d : X) → k < n → k < length xs → N (get_or xs k d)

-- what is known of the first n elements and of the next one is known of one more
pub before-more : {X : Type 0} (N : X → Type 0) (xs : List X) (n : ℕ) (x : X) → n < length xs → N (get_or xs n x) → Before N xs n → Before N xs (n + 1)
before-more N xs n x lt here before k d lk l = by (eqb k n) refl
  where
    by : (b : Bool) → eqb k n ≡ b → N (get_or xs k d)
    by true q = subst N (ap (λ j. get_or xs j x) (sym (eqb-true k n q)) ∙ get_or_any xs k x d l) here
    by false q = before k d (below (λ e. absurd (true≢false (sym (eq-eqb k n e) ∙ q)))) l
      where
        below : k ≢ n → k < n
        below ne = omega (arith, lk, ne)

-- the best so far is kept when one more element is looked at that does not pass
pub kept-on : {X : Type 0} (N P : X → Type 0) (xs : List X) (best : Option (ℕ × ℕ)) (n : ℕ) (x : X) → n < length xs → N (get_or xs n x) → MatchOption best (Before N xs n) (λ p. IsAt P xs p.0) → MatchOption best (Before N xs (n + 1)) (λ p. IsAt P xs p.0)
kept-on N P xs None n x lt here m = before-more N xs n x lt here m
kept-on N P xs (Some i) n x lt here m = m

-- whichever is picked, the best so far or the next element, which passes, is one that passes
pub found-at : {X : Type 0} (N P : X → Type 0) (xs : List X) (best : Option (ℕ × ℕ)) (n stamp : ℕ) (r : ℕ × ℕ) (x : X) → n < length xs → P (get_or xs n x) → (best ≡ Some r) ⊎ (r ≡ (n, stamp)) → MatchOption best (Before N xs n) (λ p. IsAt P xs p.0) → IsAt P xs r.0
found-at N P xs best n stamp r x lt here (inl e) m = subst (λ (b : Option (ℕ × ℕ)). MatchOption b (Before N xs n) (λ p. IsAt P xs p.0)) e m
found-at N P xs best n stamp r x lt here (inr e) m =
    let place : r.0 ≡ n = ap (λ (p : ℕ × ℕ). p.0) e in
    (omega (arith, lt, place), λ d. subst P (get_or_any xs n x d lt ∙ ap (λ j. get_or xs j d) (sym place)) here)
