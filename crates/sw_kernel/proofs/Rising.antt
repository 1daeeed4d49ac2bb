-- The bounds of a replay: they rise, and they are those of its ranges.
use Rattle.std.proofs.Common.{◌≡◌, ℕ, ◌-◌, ℤ, Bool, true, false, ◌||◌, nat_lt, List, [], ◌∷◌, length, Option, None, Some, refl, sym, ap, ◌∙◌, subst, inl, inr}
use Rattle.std.proofs.lemmas.Bool.{cases_Bool}
use Rattle.sw_query.specs.declared.bound.Bound.{Bound}
use Rattle.sw_query.specs.Bounds.{bound_below, same_bound}
use Rattle.sw_kernel.specs.Partition.{goes_left}
use Rattle.sw_kernel.specs.Arrangement.{Arrangement, last, piece, crack, each_piece, ripple_insert, ripple_remove, bounds, has_bound}
use Rattle.sw_kernel.specs.Replay.{Step, loaded, inserted, removed, ranged, crack_at, load, step, replay_from}
use Rattle.sw_kernel.specs.Tapes.{IsBelowAll, IsRising, is_bound, ranges_at, is_marked}
use Rattle.sw_kernel.proofs.Orders.{below-trans, above, same-same}

all-more : {A : Type 0} (value : A → ℤ) (c b : Bound) (a : Arrangement A) → bound_below c b ≡ true → IsBelowAll c (bounds a) → IsBelowAll c (bounds (crack value b a))
all-more value c b (last xs) h al = (h, tt)
all-more value c b (piece xs x rest) h al = elim (cases_Bool (same_bound b x)) [
  | inl here ↦ rw here al
  | inr other ↦ elim (cases_Bool (bound_below b x)) [
    | inl first ↦ rw (other, first) (h, al)
    | inr past ↦ rw (other, past) (al.0, all-more value c b rest h al.1)
  ]
]

all-past : (b c : Bound) (bs : List Bound) → bound_below b c ≡ true → IsBelowAll c bs → IsBelowAll b bs
all-past b c [] h al = tt
all-past b c (x ∷ bs) h al = (below-trans b c x h al.0, all-past b c bs h al.1)

-- a crack keeps the bounds rising
pub crack-rises : {A : Type 0} (value : A → ℤ) (b : Bound) (a : Arrangement A) → IsRising (bounds a) → IsRising (bounds (crack value b a))
crack-rises value b (last xs) r = (tt, tt)
crack-rises value b (piece xs c rest) r = elim (cases_Bool (same_bound b c)) [
  | inl here ↦ rw here r
  | inr other ↦ elim (cases_Bool (bound_below b c)) [
    | inl first ↦ rw (other, first) ((first, all-past b c (bounds rest) first r.0), r)
    | inr past ↦ rw (other, past) (all-more value c b rest (above b c past other) r.0, crack-rises value b rest r.1)
  ]
]

bounds-each : {A : Type 0} (f : List A → List A) (a : Arrangement A) → bounds (each_piece f a) ≡ bounds a
bounds-each f (last xs) = refl
bounds-each f (piece xs b rest) = ap (λ l. b ∷ l) (bounds-each f rest)

-- an insertion leaves the bounds as they are
pub bounds-insert : {A : Type 0} (value : A → ℤ) (x : A) (a : Arrangement A) → bounds (ripple_insert value x a) ≡ bounds a
bounds-insert value x (last xs) = refl
bounds-insert value x (piece xs b rest) = elim (cases_Bool (goes_left value b x)) [
  | inl here ↦ rw here (ap (λ l. b ∷ l) (bounds-each _ rest))
  | inr past ↦ rw past (ap (λ l. b ∷ l) (bounds-insert value x rest))
]

-- a removal leaves the bounds as they are
pub bounds-remove : {A : Type 0} (n : ℕ) (a : Arrangement A) → bounds (ripple_remove n a) ≡ bounds a
bounds-remove n (last xs) = refl
bounds-remove n (piece xs b rest) = elim (cases_Bool (nat_lt n (length xs))) [
  | inl here ↦ rw here (ap (λ l. b ∷ l) (bounds-each _ rest))
  | inr past ↦ rw past (ap (λ l. b ∷ l) (bounds-remove (n - length xs) rest))
]

-- a load leaves the bounds as they are
pub bounds-load : {A : Type 0} (ys : List A) (a : Arrangement A) → bounds (load ys a) ≡ bounds a
bounds-load ys (last xs) = refl
bounds-load ys (piece xs b rest) = ap (λ l. b ∷ l) (bounds-load ys rest)

-- a crack at a bound that may be missing keeps the bounds rising
pub crack_at-rises : {A : Type 0} (value : A → ℤ) (b : Option Bound) (a : Arrangement A) → IsRising (bounds a) → IsRising (bounds (crack_at value b a))
crack_at-rises value None a r = r
crack_at-rises value (Some b) a r = crack-rises value b a r

-- a step keeps the bounds rising
pub step-rises : {A : Type 0} (value : A → ℤ) (e : Step A) (a : Arrangement A) → IsRising (bounds a) → IsRising (bounds (step value e a))
step-rises value (loaded ys) a r = subst IsRising (sym (bounds-load ys a)) r
step-rises value (inserted x) a r = subst IsRising (sym (bounds-insert value x a)) r
step-rises value (removed n) a r = subst IsRising (sym (bounds-remove n a)) r
step-rises value (ranged l u) a r = crack_at-rises value u (crack_at value l a) (crack_at-rises value l a r)

-- any number of steps keeps the bounds rising
pub replay_from-rises : {A : Type 0} (value : A → ℤ) (es : List (Step A)) (a : Arrangement A) → IsRising (bounds a) → IsRising (bounds (replay_from value a es))
replay_from-rises value [] a r = r
replay_from-rises value (e ∷ es) a r = replay_from-rises value es (step value e a) (step-rises value e a r)

-- ---- which bounds there are
abbrev among : Bound → List Bound → Bool
among b [] = false
among b (c ∷ cs) = same_bound b c || among b cs

has-among : {A : Type 0} (b : Bound) (a : Arrangement A) → has_bound b a ≡ among b (bounds a)
has-among b (last xs) = refl
has-among b (piece xs c rest) = ap (λ t. same_bound b c || t) (has-among b rest)

-- whether a bound is there depends on the bounds alone
pub has-same : {A : Type 0} (b : Bound) (a a' : Arrangement A) → bounds a ≡ bounds a' → has_bound b a ≡ has_bound b a'
has-same b a a' e = has-among b a ∙ ap (among b) e ∙ sym (has-among b a')

or-again : (s t : Bool) → s || t ≡ s || (s || t)
or-again true t = refl
or-again false t = refl

or-turn : (s t u : Bool) → s || (t || u) ≡ t || (s || u)
or-turn true true u = refl
or-turn true false u = refl
or-turn false t u = refl

or-group : (s t u : Bool) → s || (t || u) ≡ (t || s) || u
or-group true true u = refl
or-group true false u = refl
or-group false true u = refl
or-group false false u = refl

-- after a crack there are the bounds from before, and its own
pub has-crack : {A : Type 0} (value : A → ℤ) (b c : Bound) (a : Arrangement A) → has_bound b (crack value c a) ≡ same_bound b c || has_bound b a
has-crack value b c (last xs) = refl
has-crack value b c (piece xs d rest) = elim (cases_Bool (same_bound c d)) [
  | inl here ↦ rw here (ap (λ t. t || has_bound b rest) (same-same b c d here) ∙ or-again (same_bound b c) (has_bound b rest) ∙ ap (λ t. same_bound b c || (t || has_bound b rest)) (sym (same-same b c d here)))
  | inr other ↦ elim (cases_Bool (bound_below c d)) [
    | inl first ↦ rw (other, first) refl
    | inr past ↦ rw (other, past) (ap (λ t. same_bound b d || t) (has-crack value b c rest) ∙ or-turn (same_bound b d) (same_bound b c) (has_bound b rest))
  ]
]

-- after a crack at a bound that may be missing there are the bounds from before, and its own if it has one
pub has-crack_at : {A : Type 0} (value : A → ℤ) (b : Bound) (c : Option Bound) (a : Arrangement A) → has_bound b (crack_at value c a) ≡ is_bound b c || has_bound b a
has-crack_at value b None a = refl
has-crack_at value b (Some c) a = has-crack value b c a

-- after a step there are the bounds from before, and those that stand in its range
pub has-step : {A : Type 0} (value : A → ℤ) (b : Bound) (e : Step A) (a : Arrangement A) → has_bound b (step value e a) ≡ ranges_at b e || has_bound b a
has-step value b (loaded ys) a = has-same b (load ys a) a (bounds-load ys a)
has-step value b (inserted x) a = has-same b (ripple_insert value x a) a (bounds-insert value x a)
has-step value b (removed n) a = has-same b (ripple_remove n a) a (bounds-remove n a)
has-step value b (ranged l u) a =
    has-crack_at value b u (crack_at value l a) ∙ ap (λ t. is_bound b u || t) (has-crack_at value b l a) ∙ or-group (is_bound b u) (is_bound b l) (has_bound b a)

-- after steps there are the bounds from before, and those that stand in their ranges
pub has-replay_from : {A : Type 0} (value : A → ℤ) (b : Bound) (es : List (Step A)) (a : Arrangement A) → has_bound b (replay_from value a es) ≡ has_bound b a || is_marked b es
has-replay_from value b [] a = or-none (has_bound b a)
  where
    or-none : (t : Bool) → t ≡ t || false
    or-none true = refl
    or-none false = refl
has-replay_from value b (e ∷ es) a =
    has-replay_from value b es (step value e a) ∙ ap (λ t. t || is_marked b es) (has-step value b e a) ∙ sym (or-group (has_bound b a) (ranges_at b e) (is_marked b es))
