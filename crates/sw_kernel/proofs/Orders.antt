-- Bounds have an order.
use Rattle.std.proofs.Common.{◌≡◌, ℤ, true, false, refl, sym, arith}
use Rattle.std.proofs.lemmas.Bool.{true≢false}
use Rattle.sw_query.specs.declared.bound.Bound.{Bound}
use Rattle.sw_query.specs.declared.bound.Bound.TheVariants.{Before, After}
use Rattle.sw_query.specs.Bounds.{is_left, bound_below, same_bound}

-- a bound below another is below all that the other is below
pub below-trans : (a b c : Bound) → bound_below a b ≡ true → bound_below b c ≡ true → bound_below a c ≡ true
below-trans (Before u) (Before v) (Before w) p q = grind (arith, p, q)
below-trans (Before u) (Before v) (After w) p q = grind (arith, p, q)
below-trans (Before u) (After v) (Before w) p q = grind (arith, p, q)
below-trans (Before u) (After v) (After w) p q = grind (arith, p, q)
below-trans (After u) (Before v) (Before w) p q = grind (arith, p, q)
below-trans (After u) (Before v) (After w) p q = grind (arith, p, q)
below-trans (After u) (After v) (Before w) p q = grind (arith, p, q)
below-trans (After u) (After v) (After w) p q = grind (arith, p, q)

-- a bound is not the same as one that it is below
pub below-new : (a b : Bound) → bound_below a b ≡ true → same_bound a b ≡ false
below-new (Before u) (Before v) p = grind (arith, p)
below-new (Before u) (After v) p = refl
below-new (After u) (Before v) p = refl
below-new (After u) (After v) p = grind (arith, p)

-- what is below the one and not below the other is not the other's equal
pub between-new : (b c d : Bound) → bound_below b d ≡ false → bound_below c d ≡ true → same_bound b c ≡ false
between-new (Before u) (Before v) (Before w) p q = grind (arith, p, q)
between-new (Before u) (Before v) (After w) p q = grind (arith, p, q)
between-new (Before u) (After v) (Before w) p q = refl
between-new (Before u) (After v) (After w) p q = refl
between-new (After u) (Before v) (Before w) p q = refl
between-new (After u) (Before v) (After w) p q = refl
between-new (After u) (After v) (Before w) p q = grind (arith, p, q)
between-new (After u) (After v) (After w) p q = grind (arith, p, q)

-- what is neither below nor the same is above
pub above : (b c : Bound) → bound_below b c ≡ false → same_bound b c ≡ false → bound_below c b ≡ true
above (Before u) (Before v) p q = grind (arith, p, q)
above (Before u) (After v) p q = grind (arith, p, q)
above (After u) (Before v) p q = grind (arith, p, q)
above (After u) (After v) p q = grind (arith, p, q)

-- what the same bound is below
pub same-below : (b m c : Bound) → same_bound b m ≡ true → bound_below m c ≡ true → bound_below b c ≡ true
same-below (Before u) (Before v) (Before w) p q = grind (arith, p, q)
same-below (Before u) (Before v) (After w) p q = grind (arith, p, q)
same-below (Before u) (After v) (Before w) p q = absurd (true≢false (sym p))
same-below (Before u) (After v) (After w) p q = absurd (true≢false (sym p))
same-below (After u) (Before v) (Before w) p q = absurd (true≢false (sym p))
same-below (After u) (Before v) (After w) p q = absurd (true≢false (sym p))
same-below (After u) (After v) (Before w) p q = grind (arith, p, q)
same-below (After u) (After v) (After w) p q = grind (arith, p, q)

-- what lies left of a bound lies left of each that it is below
pub left-below : (b c : Bound) (v : ℤ) → bound_below b c ≡ true → is_left b v ≡ true → is_left c v ≡ true
left-below (Before u) (Before w) v p q = grind (arith, p, q)
left-below (Before u) (After w) v p q = grind (arith, p, q)
left-below (After u) (Before w) v p q = grind (arith, p, q)
left-below (After u) (After w) v p q = grind (arith, p, q)

-- what does not lie left of a bound does not lie left of one below it
pub right-below : (b c : Bound) (v : ℤ) → bound_below b c ≡ true → is_left c v ≡ false → is_left b v ≡ false
right-below (Before u) (Before w) v p q = grind (arith, p, q)
right-below (Before u) (After w) v p q = grind (arith, p, q)
right-below (After u) (Before w) v p q = grind (arith, p, q)
right-below (After u) (After w) v p q = grind (arith, p, q)

-- two bounds that are the same are the same as every other
pub same-same : (b c d : Bound) → same_bound c d ≡ true → same_bound b d ≡ same_bound b c
same-same (Before u) (Before v) (Before w) p = grind (arith, p)
same-same (Before u) (Before v) (After w) p = absurd (true≢false (sym p))
same-same (Before u) (After v) (Before w) p = absurd (true≢false (sym p))
same-same (Before u) (After v) (After w) p = refl
same-same (After u) (Before v) (Before w) p = refl
same-same (After u) (Before v) (After w) p = absurd (true≢false (sym p))
same-same (After u) (After v) (Before w) p = absurd (true≢false (sym p))
same-same (After u) (After v) (After w) p = grind (arith, p)

-- two bounds are the same either way round
pub same-flips : (b c : Bound) → same_bound b c ≡ same_bound c b
same-flips (Before u) (Before v) = grind arith
same-flips (Before u) (After v) = refl
same-flips (After u) (Before v) = refl
same-flips (After u) (After v) = grind arith
