-- Places refined one after the other.
use Rattle.std.proofs.Common.{◌≡◌, ◌≢◌, ℕ, zero, suc, ◌+◌, ◌<◌, ◌≤◌, ◌&&◌, Bool, false, List, length, get_or, set, ◌⊎◌, inl, inr, refl, ap, sym, ◌∙◌, arith, get_or-set_same, get_or-set_other}

equal-or-not : (m n : ℕ) → (m ≡ n) ⊎ (m ≢ n)
equal-or-not zero zero = inl refl
equal-or-not zero (suc n) = inr (λ e. omega arith)
equal-or-not (suc m) zero = inr (λ e. omega arith)
equal-or-not (suc m) (suc n) = elim (equal-or-not m n) [ inl e ↦ inl (ap suc e) | inr d ↦ inr (λ e. d (omega arith)) ]

module _ (old bits : List Bool) (place : ℕ) (x : Bool) (p : ℕ → Bool) (is : x ≡ p place) (lt : place < length bits) (so_far : (k : ℕ) → k < place → get_or bits k false ≡ (get_or old k false && p k)) (rest : (k : ℕ) → place ≤ k → get_or bits k false ≡ get_or old k false) where
  first-at : (k : ℕ) → k < place + 1 → (k ≡ place) ⊎ (k ≢ place) → get_or (set bits place (get_or bits place false && x)) k false ≡ (get_or old k false && p k)
  first-at k l (inl e) =
      ap (λ (n : ℕ). get_or (set bits place (get_or bits place false && x)) n false) e ∙ get_or-set_same bits place (get_or bits place false && x) false lt ∙ ap (λ b. b && x) (rest place (omega arith)) ∙ ap (λ b. get_or old place false && b) is ∙ ap (λ (n : ℕ). get_or old n false && p n) (sym e)
  first-at k l (inr d) = get_or-set_other bits place k (get_or bits place false && x) false d ∙ so_far k (omega arith)

  -- with the place refined by x, each place up to it is true where it was in old and the test holds
  pub refined-first : (k : ℕ) → k < place + 1 → get_or (set bits place (get_or bits place false && x)) k false ≡ (get_or old k false && p k)
  refined-first k l = first-at k l (equal-or-not k place)

  -- with the place refined by x, each place behind it is still as in old
  pub refined-rest : (k : ℕ) → place + 1 ≤ k → get_or (set bits place (get_or bits place false && x)) k false ≡ get_or old k false
  refined-rest k l = get_or-set_other bits place k (get_or bits place false && x) false (λ e. omega arith) ∙ rest k (omega arith)
