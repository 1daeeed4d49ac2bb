-- The place of a bound among rising ones.
use Rattle.std.proofs.Common.{◌≡◌, ℕ, suc, zero, ◌<◌, ◌≤◌, Bool, true, false, ◌||◌, List, [], ◌∷◌, length, get_or, drop, insert, refl, sym, ap, ap₂, ◌∙◌, arith, inl, inr}
use Rattle.std.specs.List.Sorted.{IsPartitionPoint, IsPartitionedBy}
use Rattle.std.proofs.lemmas.Bool.{cases_Bool, true≢false}
use Rattle.std.proofs.lemmas.List.Edits.{length-insert}
use Rattle.sw_query.specs.declared.bound.Bound.{Bound}
use Rattle.sw_query.specs.declared.bound.Bound.TheVariants.{Before, After}
use Rattle.sw_query.specs.Bounds.{bound_below, same_bound}
use Rattle.sw_kernel.specs.Tapes.{IsBelowAll, IsRising}
use Rattle.sw_kernel.proofs.Orders.{below-trans, below-new, above, same-same, same-flips}
use Rattle.sw_tape.specs.Bounds.{is_among, is_first, IsPlaceOf}

-- a bound that is below all is below the one at each place
pub all-at : (b : Bound) (bs : List Bound) → IsBelowAll b bs → (k : ℕ) (d : Bound) → k < length bs → bound_below b (get_or bs k d) ≡ true
all-at b [] h k d lt = absurd (omega (arith, lt))
all-at b (c ∷ cs) h zero d lt = h.0
all-at b (c ∷ cs) h (suc k) d lt = all-at b cs h.1 k d (omega (arith, lt))

-- no bound below b comes after one that is not
pub rising-parted : (b : Bound) (bs : List Bound) → IsRising bs → IsPartitionedBy (λ c. bound_below c b) bs
rising-parted b [] r i j d le lt e = absurd (omega (arith, lt))
rising-parted b (c ∷ cs) r zero zero d le lt e = e
rising-parted b (c ∷ cs) r (suc i) zero d le lt e = absurd (omega (arith, le))
rising-parted b (c ∷ cs) r zero (suc j) d le lt e = below-trans c (get_or cs j d) b (all-at c cs r.0 j d (omega (arith, lt))) e
rising-parted b (c ∷ cs) r (suc i) (suc j) d le lt e = rising-parted b cs r.1 i j d (omega (arith, le)) (omega (arith, lt)) e

-- the point from which on the bounds are not below b is b's place
pub place-from_point : (b : Bound) (bs : List Bound) (k : ℕ) → k ≤ length bs → IsPartitionPoint (λ c. bound_below c b ≡ true) (λ c. bound_below c b ≡ false) bs k → IsPlaceOf b k bs
place-from_point b [] zero le p = tt
place-from_point b [] (suc k) le p = absurd (omega (arith, le))
place-from_point b (c ∷ cs) zero le p = p.1 0 c (omega arith) (omega arith)
place-from_point b (c ∷ cs) (suc k) le p =
    (p.0 0 c (omega arith) (omega arith), place-from_point b cs k (omega (arith, le)) (λ m d lo hi. p.0 (suc m) d (omega arith) (omega (arith, hi)), λ m d lo hi. p.1 (suc m) d (omega (arith, lo)) (omega (arith, hi))))

-- a bound's place is at most the number of bounds
pub place-within : (b : Bound) (bs : List Bound) (k : ℕ) → IsPlaceOf b k bs → k ≤ length bs
place-within b [] zero p = omega arith
place-within b [] (suc k) p = absurd p
place-within b (c ∷ cs) zero p = omega arith
place-within b (c ∷ cs) (suc k) p = let h = place-within b cs k p.1 in omega (arith, h)

-- ---- among
or-none : (t : Bool) → t ≡ false → t || false ≡ false
or-none t e = rw e refl

none-above : (b c : Bound) (cs : List Bound) → bound_below b c ≡ true → IsBelowAll c cs → is_among b cs ≡ false
none-above b c [] h al = refl
none-above b c (x ∷ xs) h al = let e : same_bound b x ≡ false = below-new b x (below-trans b c x h al.0) in rw e (none-above b c xs h al.1)

-- a bound is among rising ones exactly where it stands at its place
pub among-first : (b : Bound) (bs : List Bound) (k : ℕ) → IsRising bs → IsPlaceOf b k bs → is_among b bs ≡ is_first b (drop k bs)
among-first b [] zero r p = refl
among-first b [] (suc k) r p = absurd p
among-first b (c ∷ cs) zero r p = elim (cases_Bool (same_bound b c)) [
  | inl here ↦ rw here refl
  | inr other ↦
      let past : bound_below b c ≡ true = above c b p (same-flips c b ∙ other) in
      rw other (none-above b c cs past r.0)
]
among-first b (c ∷ cs) (suc k) r p =
    let e : same_bound b c ≡ false = same-flips b c ∙ below-new c b p.0 in
    rw e (among-first b cs k r.1 p.1)

-- ---- one more
or-turn : (s t u : Bool) → s || (t || u) ≡ t || (s || u)
or-turn true true u = refl
or-turn true false u = refl
or-turn false t u = refl

or-groups : (s t u : Bool) → s || (t || u) ≡ (s || t) || u
or-groups true t u = refl
or-groups false t u = refl

-- where a bound was put in, it and those from before are among them
pub among-insert : (b c : Bound) (bs : List Bound) (k : ℕ) → k ≤ length bs → is_among b (insert bs k c) ≡ same_bound b c || is_among b bs
among-insert b c [] zero le = refl
among-insert b c [] (suc k) le = absurd (omega (arith, le))
among-insert b c (x ∷ xs) zero le = refl
among-insert b c (x ∷ xs) (suc k) le = ap (λ t. same_bound b x || t) (among-insert b c xs k (omega (arith, le))) ∙ or-turn (same_bound b x) (same_bound b c) (is_among b xs)

all-past : (b c : Bound) (bs : List Bound) → bound_below b c ≡ true → IsBelowAll c bs → IsBelowAll b bs
all-past b c [] h al = tt
all-past b c (x ∷ bs) h al = (below-trans b c x h al.0, all-past b c bs h al.1)

all-insert : (a c : Bound) (bs : List Bound) (k : ℕ) → k ≤ length bs → bound_below a c ≡ true → IsBelowAll a bs → IsBelowAll a (insert bs k c)
all-insert a c [] zero le h al = (h, tt)
all-insert a c [] (suc k) le h al = absurd (omega (arith, le))
all-insert a c (x ∷ xs) zero le h al = (h, al)
all-insert a c (x ∷ xs) (suc k) le h al = (al.0, all-insert a c xs k (omega (arith, le)) h al.1)

-- a bound that does not stand at its place, put there
pub rising-insert : (b : Bound) (bs : List Bound) (k : ℕ) → IsRising bs → IsPlaceOf b k bs → is_first b (drop k bs) ≡ false → IsRising (insert bs k b)
rising-insert b [] zero r p e = (tt, tt)
rising-insert b [] (suc k) r p e = absurd p
rising-insert b (c ∷ cs) zero r p e =
    let past : bound_below b c ≡ true = above c b p (same-flips c b ∙ e) in
    ((past, all-past b c cs past r.0), r)
rising-insert b (c ∷ cs) (suc k) r p e = (all-insert c b cs k (place-within b cs k p.1) p.0 r.0, rising-insert b cs k r.1 p.1 e)

-- a bound that is there adds nothing
pub same-again : (b c : Bound) (bs : List Bound) → is_among c bs ≡ true → same_bound b c || is_among b bs ≡ is_among b bs
same-again b c bs e = elim (cases_Bool (same_bound b c)) [
  | inl here ↦ rw here (sym (among-same b c bs here ∙ e))
  | inr other ↦ rw other refl
]
  where
    among-same : (b c : Bound) (bs : List Bound) → same_bound b c ≡ true → is_among b bs ≡ is_among c bs
    among-same b c [] h = refl
    among-same b c (x ∷ xs) h = ap₂ (λ s t. s || t) (same-flips b x ∙ sym (same-same x b c h) ∙ same-flips x c) (among-same b c xs h)

-- ---- two more
-- of two bounds one at most is below the other
pub not-below : (b c : Bound) → bound_below b c ≡ true → bound_below c b ≡ false
not-below (Before u) (Before v) p = grind (arith, p)
not-below (Before u) (After v) p = grind (arith, p)
not-below (After u) (Before v) p = grind (arith, p)
not-below (After u) (After v) p = grind (arith, p)

-- the place of a higher bound is not before that of a lower one
pub place-order : (b c : Bound) (bs : List Bound) (k m : ℕ) → IsPlaceOf b k bs → IsPlaceOf c m bs → bound_below b c ≡ true → k ≤ m
place-order b c bs zero m p q h = omega arith
place-order b c [] (suc k) m p q h = absurd p
place-order b c (x ∷ xs) (suc k) zero p q h = absurd (true≢false (sym (below-trans x b c p.0 h) ∙ q))
place-order b c (x ∷ xs) (suc k) (suc m) p q h = let le = place-order b c xs k m p.1 q.1 h in omega (arith, le)

-- the place of a new bound stays where a higher one is put at its own
pub place-kept : (b c : Bound) (bs : List Bound) (k m : ℕ) → IsPlaceOf b k bs → is_first b (drop k bs) ≡ false → IsPlaceOf c m bs → bound_below b c ≡ true → IsPlaceOf b k (insert bs m c) × (is_first b (drop k (insert bs m c)) ≡ false)
place-kept b c [] zero zero p e q h = (not-below b c h, below-new b c h)
place-kept b c [] zero (suc m) p e q h = absurd q
place-kept b c [] (suc k) m p e q h = absurd p
place-kept b c (x ∷ xs) zero zero p e q h = (not-below b c h, below-new b c h)
place-kept b c (x ∷ xs) zero (suc m) p e q h = (p, e)
place-kept b c (x ∷ xs) (suc k) zero p e q h = absurd (true≢false (sym (below-trans x b c p.0 h) ∙ q))
place-kept b c (x ∷ xs) (suc k) (suc m) p e q h = let r = place-kept b c xs k m p.1 e q.1 h in ((p.0, r.0), r.1)

-- two new bounds, each put at its place
pub rising-two : (b c : Bound) (bs : List Bound) (k m : ℕ) → IsRising bs → IsPlaceOf b k bs → is_first b (drop k bs) ≡ false → IsPlaceOf c m bs → is_first c (drop m bs) ≡ false → bound_below b c ≡ true → IsRising (insert (insert bs m c) k b)
rising-two b c bs k m r p e q f h =
    let kept = place-kept b c bs k m p e q h in
    rising-insert b (insert bs m c) k (rising-insert c bs m r q f) kept.0 kept.1

-- and then those from before and the two are among them
pub among-two : (b c : Bound) (bs : List Bound) (k m : ℕ) → k ≤ m → m ≤ length bs → (x : Bound) → is_among x (insert (insert bs m c) k b) ≡ (same_bound x b || same_bound x c) || is_among x bs
among-two b c bs k m low high x =
    let long = length-insert bs m c high in
    among-insert x b (insert bs m c) k (omega (arith, low, high, long)) ∙
    ap (λ t. same_bound x b || t) (among-insert x c bs m high) ∙
    or-groups (same_bound x b) (same_bound x c) (is_among x bs)

-- a new bound, put at its place, where a second one is there already
pub among-one : (b c : Bound) (bs : List Bound) (k : ℕ) → k ≤ length bs → is_among c bs ≡ true → (x : Bound) → is_among x (insert bs k b) ≡ (same_bound x b || same_bound x c) || is_among x bs
among-one b c bs k le there x =
    among-insert x b bs k le ∙
    ap (λ t. same_bound x b || t) (sym (same-again x c bs there)) ∙
    or-groups (same_bound x b) (same_bound x c) (is_among x bs)
