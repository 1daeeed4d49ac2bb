-- The nearest of rising bounds around a value.
use Rattle.std.proofs.Common.{◌≡◌, ◌≢◌, ℕ, suc, zero, ◌<◌, ◌≤◌, ◌-◌, ℤ, not, Bool, true, false, true≢false, List, [], ◌∷◌, length, get_or, Option, None, Some, refl, sym, ap, ◌∙◌, arith, subst, inl, inr}
use Rattle.std.specs.List.Sorted.{IsPartitionPoint, IsPartitionedBy}
use Rattle.std.proofs.lemmas.Bool.{cases_Bool}
use Rattle.sw_query.specs.declared.bound.Bound.{Bound}
use Rattle.sw_query.specs.declared.bound.Bound.TheVariants.{Before, After}
use Rattle.sw_query.specs.Bounds.{bound_below, is_left, same_bound}
use Rattle.sw_kernel.specs.Tapes.{IsBelowAll, IsRising}
use Rattle.sw_kernel.proofs.Orders.{left-below, right-below}
use Rattle.sw_tape.proofs.Places.{all-at, not-below}
use Rattle.sw_tape.specs.Bounds.{IsNearestAbove, IsNearestBelow, IsSplit, is_among}

-- ---- the order of bounds
same-bound : (b c : Bound) → same_bound b c ≡ true → b ≡ c
same-bound (Before v) (Before w) h = let e : v ≡ w = grind (arith, h) in ap Before e
same-bound (Before v) (After w) h = absurd (true≢false (sym h))
same-bound (After v) (Before w) h = absurd (true≢false (sym h))
same-bound (After v) (After w) h = let e : v ≡ w = grind (arith, h) in ap After e

same-self : (b : Bound) → same_bound b b ≡ true
same-self (Before v) = grind arith
same-self (After v) = grind arith

not-below_self : (b : Bound) → bound_below b b ≡ false
not-below_self (Before v) = grind arith
not-below_self (After v) = grind arith

all-among : (c b : Bound) (bs : List Bound) → IsBelowAll c bs → is_among b bs ≡ true → bound_below c b ≡ true
all-among c b [] al h = absurd (true≢false (sym h))
all-among c b (x ∷ xs) al h = elim (cases_Bool (same_bound b x)) [
  | inl here ↦ subst (λ (v : Bound). bound_below c v ≡ true) (sym (same-bound b x here)) al.0
  | inr other ↦ all-among c b xs al.1 (rw other at h)
]

among-at : (bs : List Bound) (k : ℕ) (d : Bound) → k < length bs → is_among (get_or bs k d) bs ≡ true
among-at [] k d lt = let no : k < 0 = lt in absurd (omega arith)
among-at (c ∷ cs) zero d lt = rw (same-self c) refl
among-at (c ∷ cs) (suc k) d lt = elim (cases_Bool (same_bound (get_or cs k d) c)) [
  | inl here ↦ rw here refl
  | inr other ↦ rw other (among-at cs k d (omega arith))
]

-- ---- where a value splits rising bounds
not-not : (t : Bool) → not t ≡ true → t ≡ false
not-not true h = absurd (true≢false (sym h))
not-not false h = refl

not-yes : (t : Bool) → not t ≡ false → t ≡ true
not-yes true h = refl
not-yes false h = absurd (true≢false h)

-- no bound that does not have the value on its left comes after one that has
pub rising-split : (v : ℤ) (bs : List Bound) → IsRising bs → IsPartitionedBy (λ c. not (is_left c v)) bs
rising-split v [] r i j d le lt e = absurd (omega (arith, lt))
rising-split v (c ∷ cs) r zero zero d le lt e = e
rising-split v (c ∷ cs) r (suc i) zero d le lt e = absurd (omega (arith, le))
rising-split v (c ∷ cs) r zero (suc j) d le lt e =
    ap not (right-below c (get_or cs j d) v (all-at c cs r.0 j d (omega (arith, lt))) (not-not (is_left (get_or cs j d) v) e))
rising-split v (c ∷ cs) r (suc i) (suc j) d le lt e = rising-split v cs r.1 i j d (omega (arith, le)) (omega (arith, lt)) e

-- the point from which on the bounds have the value on their left splits them
pub split-from_point : (v : ℤ) (bs : List Bound) (k : ℕ) → k ≤ length bs → IsPartitionPoint (λ c. not (is_left c v) ≡ true) (λ c. not (is_left c v) ≡ false) bs k → IsSplit v k bs
split-from_point v [] zero le p = tt
split-from_point v [] (suc k) le p = absurd (omega (arith, le))
split-from_point v (c ∷ cs) zero le p = not-yes (is_left c v) (p.1 0 c (omega arith) (omega arith))
split-from_point v (c ∷ cs) (suc k) le p =
    (not-not (is_left c v) (p.0 0 c (omega arith) (omega arith)), split-from_point v cs k (omega (arith, le)) (λ m d lo hi. p.0 (suc m) d (omega arith) (omega (arith, hi)), λ m d lo hi. p.1 (suc m) d (omega (arith, lo)) (omega (arith, hi))))

-- ---- the nearest below
all-left : (v : ℤ) (bs : List Bound) → IsRising bs → IsSplit v 0 bs → (b : Bound) → is_among b bs ≡ true → is_left b v ≡ true
all-left v [] r s b h = absurd (true≢false (sym h))
all-left v (c ∷ cs) r s b h = elim (cases_Bool (same_bound b c)) [
  | inl here ↦ subst (λ (x : Bound). is_left x v ≡ true) (sym (same-bound b c here)) s
  | inr other ↦ left-below c b v (all-among c b cs r.0 (rw other at h)) s
]

low-side : (v : ℤ) (bs : List Bound) (k : ℕ) (d : Bound) → IsSplit v (suc k) bs → (is_left (get_or bs k d) v ≡ false) × (k < length bs)
low-side v [] k d s = absurd s
low-side v (c ∷ cs) zero d s = (s.0, omega arith)
low-side v (c ∷ cs) (suc k) d s = let h = low-side v cs k d s.1 in (h.0, let lt = h.1 in omega (arith, lt))

low-last : (v : ℤ) (bs : List Bound) (k : ℕ) (d : Bound) → IsRising bs → IsSplit v (suc k) bs → (b : Bound) → is_among b bs ≡ true → is_left b v ≡ false → bound_below (get_or bs k d) b ≡ false
low-last v [] k d r s b h e = absurd s
low-last v (c ∷ cs) zero d r s b h e = elim (cases_Bool (same_bound b c)) [
  | inl here ↦ subst (λ (x : Bound). bound_below c x ≡ false) (sym (same-bound b c here)) (not-below_self c)
  | inr other ↦ absurd (true≢false (sym (all-left v cs r.1 s.1 b (rw other at h)) ∙ e))
]
low-last v (c ∷ cs) (suc k) d r s b h e = elim (cases_Bool (same_bound b c)) [
  | inl here ↦
      let lt = (low-side v cs k d s.1).1 in
      subst (λ (x : Bound). bound_below (get_or cs k d) x ≡ false) (sym (same-bound b c here)) (not-below c (get_or cs k d) (all-at c cs r.0 k d lt))
  | inr other ↦ low-last v cs k d r.1 s.1 b (rw other at h) e
]

-- where a value splits rising bounds before the first, none is nearest below it
pub nearest-none_below : (v : ℤ) (bs : List Bound) (k : ℕ) → k ≡ 0 → IsRising bs → IsSplit v k bs → IsNearestBelow (λ b. is_among b bs) v None
nearest-none_below v bs k e r s = all-left v bs r (subst (λ (n : ℕ). IsSplit v n bs) e s)

-- the bound before the place where a value splits rising bounds is the nearest below it
pub nearest-low : (v : ℤ) (bs : List Bound) (k : ℕ) (d : Bound) → k ≢ 0 → IsRising bs → IsSplit v k bs → IsNearestBelow (λ b. is_among b bs) v (Some (get_or bs (k - 1) d))
nearest-low v bs zero d ne r s = absurd (ne refl)
nearest-low v bs (suc k) d ne r s =
    let e : suc k - 1 ≡ k = omega arith in
    let h = low-side v bs k d s in
    subst (λ (n : ℕ). IsNearestBelow (λ b. is_among b bs) v (Some (get_or bs n d))) (sym e) (among-at bs k d h.1, h.0, low-last v bs k d r s)

-- ---- the nearest above
none-left : (v : ℤ) (bs : List Bound) (k : ℕ) → k ≡ length bs → IsSplit v k bs → (b : Bound) → is_among b bs ≡ true → is_left b v ≡ false
none-left v [] k e s b h = absurd (true≢false (sym h))
none-left v (c ∷ cs) zero e s b h = absurd (omega (arith, e))
none-left v (c ∷ cs) (suc k) e s b h = elim (cases_Bool (same_bound b c)) [
  | inl here ↦ subst (λ (x : Bound). is_left x v ≡ false) (sym (same-bound b c here)) s.0
  | inr other ↦ none-left v cs k (omega (arith, e)) s.1 b (rw other at h)
]

high-side : (v : ℤ) (bs : List Bound) (k : ℕ) (d : Bound) → k < length bs → IsSplit v k bs → is_left (get_or bs k d) v ≡ true
high-side v [] k d lt s = let no : k < 0 = lt in absurd (omega arith)
high-side v (c ∷ cs) zero d lt s = s
high-side v (c ∷ cs) (suc k) d lt s = high-side v cs k d (omega arith) s.1

high-first : (v : ℤ) (bs : List Bound) (k : ℕ) (d : Bound) → k < length bs → IsRising bs → IsSplit v k bs → (b : Bound) → is_among b bs ≡ true → is_left b v ≡ true → bound_below b (get_or bs k d) ≡ false
high-first v [] k d lt r s b h e = let no : k < 0 = lt in absurd (omega arith)
high-first v (c ∷ cs) zero d lt r s b h e = elim (cases_Bool (same_bound b c)) [
  | inl here ↦ subst (λ (x : Bound). bound_below x c ≡ false) (sym (same-bound b c here)) (not-below_self c)
  | inr other ↦ not-below c b (all-among c b cs r.0 (rw other at h))
]
high-first v (c ∷ cs) (suc k) d lt r s b h e = elim (cases_Bool (same_bound b c)) [
  | inl here ↦ absurd (true≢false (sym e ∙ ap (λ (x : Bound). is_left x v) (same-bound b c here) ∙ s.0))
  | inr other ↦ high-first v cs k d (omega arith) r.1 s.1 b (rw other at h) e
]

-- where a value splits bounds after the last, none is nearest above it
pub nearest-none_above : (v : ℤ) (bs : List Bound) (k : ℕ) → k ≡ length bs → IsSplit v k bs → IsNearestAbove (λ b. is_among b bs) v None
nearest-none_above v bs k e s = none-left v bs k e s

-- the bound at the place where a value splits rising bounds is the nearest above it
pub nearest-high : (v : ℤ) (bs : List Bound) (k : ℕ) (d : Bound) → k < length bs → IsRising bs → IsSplit v k bs → IsNearestAbove (λ b. is_among b bs) v (Some (get_or bs k d))
nearest-high v bs k d lt r s = (among-at bs k d lt, high-side v bs k d lt s, high-first v bs k d lt r s)

-- ---- bounds that pass another test that says the same
pub below-same : (p q : Bound → Bool) (v : ℤ) (o : Option Bound) → ((b : Bound) → p b ≡ q b) → IsNearestBelow p v o → IsNearestBelow q v o
below-same p q v None same h = λ b e. h b (same b ∙ e)
below-same p q v (Some c) same h = (sym (same c) ∙ h.0, h.1, λ b e l. h.2 b (same b ∙ e) l)

-- the nearest bound above, or none, is so by any test that says the same
pub above-same : (p q : Bound → Bool) (v : ℤ) (o : Option Bound) → ((b : Bound) → p b ≡ q b) → IsNearestAbove p v o → IsNearestAbove q v o
above-same p q v None same h = λ b e. h b (same b ∙ e)
above-same p q v (Some c) same h = (sym (same c) ∙ h.0, h.1, λ b e l. h.2 b (same b ∙ e) l)
